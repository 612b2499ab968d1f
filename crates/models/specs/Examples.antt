-- Worked examples of the models. Assumes nothing.
use Rattle.std.specs.Prelude.{◌≡◌, ℕ, replicate, Some, Option}
use Rattle.std.specs.Option.{option_map}
use Rattle.models.specs.Kinds.{Coding}
use Rattle.models.specs.Meanings.{Meaning}
use Rattle.models.specs.Poses.{pose_coding}
use Rattle.models.specs.LiftStates.{lift_coding}
use Rattle.models.specs.declared.pose.Pose.{Pose}
use Rattle.models.specs.Grids.{grid_meaning}
use Rattle.models.specs.Lifts.{lift_meaning}
use Rattle.models.specs.Layers.{slipping}

-- the code of where the state with code n goes under a command and a number
abbrev pub code_after : {S : Type 0} → Coding S → Meaning S → ℕ → ℕ → ℕ → Option ℕ
code_after k m n c r = option_map (λ s. k.code (m.move s c r)) (k.back n)

-- the score of a reading in the state with code n
abbrev pub score_at : {S : Type 0} → Coding S → Meaning S → ℕ → ℕ → Option ℕ
score_at k m n q = option_map (λ s. m.score s q) (k.back n)

-- the grid with no wall
abbrev pub empty_grid : Meaning Pose
empty_grid = grid_meaning (replicate 32 0)

pub record Examples : Type 0 where
  pub last_birth : pose_coding.code (empty_grid.birth 4294967295) ≡ 4095
  pub three_off : score_at pose_coding empty_grid 1024 28 ≡ Some 20
  pub four_off : score_at pose_coding empty_grid 1024 27 ≡ Some 1
  pub lift_arrives : code_after lift_coding lift_meaning 102 0 3221225471 ≡ Some 200
  pub lift_goes_on : code_after lift_coding lift_meaning 102 0 3221225472 ≡ Some 103
  pub slips : code_after pose_coding (slipping 16 empty_grid) 1024 1 268435455 ≡ Some 1024
  pub moves : code_after pose_coding (slipping 16 empty_grid) 1024 1 268435456 ≡ Some 1025
