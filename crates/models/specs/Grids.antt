-- The grid: a cart on a map of 32 rows, with a range finder that looks ahead. Assumes nothing.
use Rattle.std.specs.Prelude.{ℕ, ◌+◌, ◌-◌, ◌/◌, ◌%◌, ◌^◌, Bool, cond, List, is_some, Some, None, Ok, Err, Option, Result, ◌==◌, nat_le, nat_lt, slice_index, slice_set}
use Rattle.std.specs.Option.{unwrap_or}
use Rattle.std.specs.List.{range_with_len, prefix_len}
use Rattle.refusals.specs.declared.Refusal.{Refusal}
use Rattle.refusals.specs.declared.Refusal.TheVariants.{OutOfRange, Unknown}
use Rattle.models.specs.Meanings.{Meaning}
use Rattle.models.specs.Poses.{pose, heading_of, right, left}
use Rattle.models.specs.declared.grid.Command.{Command}
use Rattle.models.specs.declared.grid.Command.TheVariants.{Stay, Forward, TurnRight, TurnLeft}
use Rattle.models.specs.declared.pose.Heading.{Heading}
use Rattle.models.specs.declared.pose.Heading.TheVariants.{North, East, South, West}
use Rattle.models.specs.declared.pose.Pose.{Pose}

-- the answer to setting row y
abbrev pub row_reply : ℕ → Result (Unit {0}) Refusal
row_reply y = cond (nat_lt y 32) (Ok tt) (Err OutOfRange)

-- the rows after setting row y, if there is one
abbrev pub rows_after : List ℕ → ℕ → ℕ → List ℕ
rows_after rows y bits = cond (nat_lt y 32) (slice_set rows y bits) rows

-- bit x of row y is set
abbrev pub wall : List ℕ → ℕ → ℕ → Bool
wall rows x y = slice_index rows y / 2 ^ x % 2 == 1

-- the pose d cells on in a heading, or none where that is outside
abbrev pub further : Heading → ℕ → ℕ → ℕ → Option Pose
further North x y d = cond (nat_le d y) (Some (pose x (y - d) North)) None
further East x y d = cond (nat_lt (x + d) 32) (Some (pose (x + d) y East)) None
further South x y d = cond (nat_lt (y + d) 32) (Some (pose x (y + d) South)) None
further West x y d = cond (nat_le d x) (Some (pose (x - d) y West)) None

-- the pose d cells ahead, or none where that is outside
abbrev pub ahead : Pose → ℕ → Option Pose
ahead p d = further p.heading p.x p.y d

-- a pose, if there is one and it is in no wall
abbrev pub unless_wall : List ℕ → Option Pose → Option Pose
unless_wall rows None = None
unless_wall rows (Some q) = cond (wall rows q.x q.y) None (Some q)

-- the pose d cells ahead, if that cell is inside and free
abbrev pub reach : List ℕ → Pose → ℕ → Option Pose
reach rows p d = unless_wall rows (ahead p d)

-- a birth: cell and heading are read off the number's upper bits
abbrev pub grid_birth : ℕ → Pose
grid_birth r = pose (r / 2 ^ 27) (r / 2 ^ 22 % 32) (heading_of (r / 2 ^ 20 % 4))

-- to the next cell, or it stays if that is a wall or outside
abbrev pub single_forward : List ℕ → Pose → Pose
single_forward rows p = unwrap_or (reach rows p 1) p

-- two cells ahead if that cell is inside and free, else a single forward
abbrev pub overrun_forward : List ℕ → Pose → Pose
overrun_forward rows p = unwrap_or (reach rows p 2) (single_forward rows p)

-- one number in eight overruns
abbrev pub overruns : ℕ → Bool
overruns r = r / 2 ^ 29 == 7

-- a forward, single or overrun by its number
abbrev pub forward : List ℕ → Pose → ℕ → Pose
forward rows p r = cond (overruns r) (overrun_forward rows p) (single_forward rows p)

-- the pose after a turn
abbrev pub turned : (Heading → Heading) → Pose → Pose
turned t p = pose p.x p.y (t p.heading)

-- the command that has the number, and a refusal of a number that no command has
abbrev pub command_reply : ℕ → Result Command Refusal
command_reply c =
    cond (c == 0) (Ok Stay)
    (cond (c == 1) (Ok Forward)
    (cond (c == 2) (Ok TurnRight)
    (cond (c == 3) (Ok TurnLeft)
    (Err Unknown))))

-- command 0 stays, 1 goes forward, 2 turns right, 3 turns left
abbrev pub grid_move : List ℕ → Pose → ℕ → ℕ → Pose
grid_move rows p c r =
    cond (c == 0) p
    (cond (c == 1) (forward rows p r)
    (cond (c == 2) (turned right p)
    (turned left p)))

-- the cell d ahead is inside and free
abbrev pub free_at : List ℕ → Pose → ℕ → Bool
free_at rows p d = is_some (reach rows p d)

-- the free cells ahead before the first wall or the edge, which is at most 32 ahead
unfoldable pub expected_reading : List ℕ → Pose → ℕ
expected_reading rows p = prefix_len (free_at rows p) (range_with_len 1 31)

-- how far two readings are apart
abbrev pub distance : ℕ → ℕ → ℕ
distance a b = (a - b) + (b - a)

-- the score of a reading so far from the expected one
abbrev pub by_distance : ℕ → ℕ
by_distance d = cond (d == 0) 1000 (cond (d == 1) 400 (cond (d == 2) 100 (cond (d == 3) 20 1)))

-- by the distance between expected and measured, and 0 in a wall
abbrev pub grid_score : List ℕ → Pose → ℕ → ℕ
grid_score rows p q = cond (wall rows p.x p.y) 0 (by_distance (distance (expected_reading rows p) q))

-- the meaning of the grid with these rows
abbrev pub grid_meaning : List ℕ → Meaning Pose
grid_meaning rows = record {
  commands = λ c. nat_lt c 4;
  readings = λ q. nat_lt q 32;
  birth = grid_birth;
  move = grid_move rows;
  score = grid_score rows;
}
