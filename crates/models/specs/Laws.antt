-- The laws of the states and the models. Assumes nothing.
use Rattle.std.specs.Prelude.{ℕ, ◌≤◌, List}
use Rattle.std.proofs.Common.{rules}
use Rattle.models.specs.Kinds.{Kind, Exact}
use Rattle.models.specs.Meanings.{Meaning, Lawful}
use Rattle.models.specs.Poses.{pose_kind, pose_coding}
use Rattle.models.specs.LiftStates.{lift_kind, lift_coding}
use Rattle.models.specs.Grids.{grid_meaning}
use Rattle.models.specs.Lifts.{lift_meaning}
use Rattle.models.specs.Layers.{slipping, floored}
use Rattle.models.specs.Moves.{grid_move_on}

pub pose_exact : Exact pose_coding
pose_exact = search rules

pub lift_exact : Exact lift_coding
lift_exact = search rules

pub grid_lawful : (rows : List ℕ) → Lawful pose_kind (grid_meaning rows)
grid_lawful rows = record {
  births = search rules;
  moves = λ s c r i k b. grid_move_on rows s c r i;
  scores = search rules;
}

pub lift_lawful : Lawful lift_kind lift_meaning
lift_lawful = search rules

pub slipping_lawful : {S : Type 0} (k : Kind S) (m : Meaning S) (p : ℕ) → Lawful k m → Lawful k (slipping p m)
slipping_lawful k m p law = search rules

pub floored_lawful : {S : Type 0} (k : Kind S) (m : Meaning S) (f : ℕ) → f ≤ 65535 → Lawful k m → Lawful k (floored f m)
floored_lawful k m f low law = search rules
