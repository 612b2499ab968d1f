-- Poses of the grid: a cell and a heading. Assumes nothing.
use Rattle.std.specs.Prelude.{ℕ, ◌+◌, ◌*◌, ◌/◌, ◌%◌, Bool, cond, ◌&&◌, Some, None, ◌==◌, nat_lt}
use Rattle.models.specs.Kinds.{Kind, Coding}
use Rattle.models.specs.declared.pose.Heading.{Heading}
use Rattle.models.specs.declared.pose.Heading.TheVariants.{North, East, South, West}
use Rattle.models.specs.declared.pose.Pose.{Pose}

-- the number that a code has for a heading
abbrev pub heading_number : Heading → ℕ
heading_number North = 0
heading_number East = 1
heading_number South = 2
heading_number West = 3

-- the heading that has the number
abbrev pub heading_of : ℕ → Heading
heading_of n = cond (n == 0) North (cond (n == 1) East (cond (n == 2) South West))

-- the heading after a turn to the right
abbrev pub right : Heading → Heading
right h = heading_of ((heading_number h + 1) % 4)

-- the heading after a turn to the left
abbrev pub left : Heading → Heading
left h = heading_of ((heading_number h + 3) % 4)

-- the pose at x and y with a heading
abbrev pub pose : ℕ → ℕ → Heading → Pose
pose x y h = record { x = x; y = y; heading = h }

-- the pose has a cell of the grid
abbrev pub on_grid : Pose → Bool
on_grid p = nat_lt p.x 32 && nat_lt p.y 32

-- which poses are states
abbrev pub pose_kind : Kind Pose
pose_kind = record { is = on_grid }

-- the codes of poses
abbrev pub pose_coding : Coding Pose
pose_coding = record {
  is = on_grid;
  code = λ p. p.x + 32 * p.y + 1024 * heading_number p.heading;
  back = λ n. cond (nat_lt n 4096) (Some (pose (n % 32) (n / 32 % 32) (heading_of (n / 1024)))) None;
}
