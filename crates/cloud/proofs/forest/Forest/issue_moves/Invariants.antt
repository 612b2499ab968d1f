use Rattle.std.proofs.Common.{◌≡◌, ◌+◌}
use Rattle.sources.specs.Supplies.{after}
use Rattle.cloud.specs.Guards.{guarded_move}
use Rattle.cloud.specs.Forests.{Longer}
use Rattle.cloud.proofs.forest.Forest.issue_moves.Given as goal

abbrev pub invariant-loop-tip : goal.invariant-loop-tip
invariant-loop-tip g l = record {
  rest : g.R.Source.supply l.source ≡ after l.tip-index (g.R.Source.supply l.initial.source);
  same : g.R.Source.recorded l.source ≡ g.R.Source.recorded l.initial.source;
  free : l.self.free + l.tip-index ≡ l.initial.self.free;
  moved : Longer l.initial.self l.self l.initial.tips l.tips (λ k s. guarded_move g.S.State.kind (g.M.Model.meaning l.model) s l.command ((g.R.Source.supply l.initial.source).to_come k)) l.tip-index;
}
