use Rattle.std.proofs.Common.{◌≡◌, ℕ, ◌*◌, ◌<◌, ◌≤◌, length, get_or}
use Rattle.resampling.specs.Marks.{total}
use Rattle.cloud.specs.Guards.{guarded_score}
use Rattle.cloud.specs.Forests.{states_of}
use Rattle.cloud.proofs.forest.Forest.score_tips.Given as goal

abbrev pub invariant-loop-tip : goal.invariant-loop-tip
invariant-loop-tip g l = record {
  number : length l.weights.items ≡ l.tip-index;
  scores : (i : ℕ) (d : g.row.S.Denot) → i < l.tip-index → get_or l.weights.items i 0 ≡ guarded_score g.S.State.kind (g.M.Model.meaning l.model) (get_or (states_of l.self) (get_or l.tips.items i 0) d) l.reading;
  sum : l.sum ≡ total l.weights.items;
  bound : l.sum ≤ l.tip-index * 65535;
}
