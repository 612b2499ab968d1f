-- A pose that moves on the grid stays on it. Assumes nothing.
use Rattle.std.specs.Prelude.{◌≡◌, ℕ, ◌<◌, true, List, IfSome, Some, None, Option}
use Rattle.std.proofs.Common.{rules}
use Rattle.std.specs.Option.{unwrap_or}
use Rattle.models.specs.Poses.{on_grid}
use Rattle.models.specs.Grids.{further, unless_wall, reach, single_forward, overrun_forward, grid_move}
use Rattle.models.specs.declared.pose.Heading.{Heading}
use Rattle.models.specs.declared.pose.Heading.TheVariants.{North, East, South, West}
use Rattle.models.specs.declared.pose.Pose.{Pose}

abbrev On : Pose → Type 0
On p = on_grid p ≡ true

further_on : (h : Heading) (x y d : ℕ) → x < 32 → y < 32 → IfSome (further h x y d) On
further_on North x y d p q = search rules
further_on East x y d p q = search rules
further_on South x y d p q = search rules
further_on West x y d p q = search rules

unless_wall_on : (rows : List ℕ) (o : Option Pose) → IfSome o On → IfSome (unless_wall rows o) On
unless_wall_on rows None h = tt
unless_wall_on rows (Some q) h = search rules

reach_on : (rows : List ℕ) (p : Pose) (d : ℕ) → On p → IfSome (reach rows p d) On
reach_on rows p d h = search (rules, unless_wall_on, further_on)

value_on : (o : Option Pose) (d : Pose) → IfSome o On → On d → On (unwrap_or o d)
value_on None d h k = k
value_on (Some q) d h k = h

pub grid_move_on : (rows : List ℕ) (p : Pose) (c r : ℕ) → On p → On (grid_move rows p c r)
grid_move_on rows p c r h =
    let single : On (single_forward rows p) = value_on _ _ (reach_on rows p 1 h) h in
    let overrun : On (overrun_forward rows p) = value_on _ _ (reach_on rows p 2 h) single in
    search rules
