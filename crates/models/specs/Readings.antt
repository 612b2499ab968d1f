-- What the expected reading of the grid tells, with no word of how it is found. Assumes nothing.
use Rattle.std.specs.Prelude.{◌≡◌, ℕ, ◌+◌, ◌<◌, ◌≤◌, true, false, List}
use Rattle.models.specs.Poses.{on_grid}
use Rattle.models.specs.Grids.{free_at, expected_reading}
use Rattle.models.specs.declared.pose.Pose.{Pose}

-- n cells are free ahead of the pose
pub record FreeAhead (rows : List ℕ) (p : Pose) (n : ℕ) : Type 0 where
  -- each of the n cells ahead is inside and free
  pub free : (d : ℕ) → 0 < d → d ≤ n → free_at rows p d ≡ true
  -- and the next one is a wall or outside
  pub blocked : free_at rows p (n + 1) ≡ false
  -- n is a reading that the grid knows
  pub known : n < 32

-- so many cells are free as the expected reading says
abbrev pub ExpectedIsWhatIsFreeAhead : Type 0
ExpectedIsWhatIsFreeAhead = (rows : List ℕ) (p : Pose) → on_grid p ≡ true → FreeAhead rows p (expected_reading rows p)
