use Rattle.std.proofs.Common.{◌≡◌, ◌+◌, length}
use Rattle.sources.specs.Supplies.{after}
use Rattle.cloud.specs.Forests.{Births}
use Rattle.cloud.proofs.forest.Forest.issue_births.Given as goal

abbrev pub invariant-loop : goal.invariant-loop
invariant-loop g l = record {
  born : Births l.initial.self l.self l.tips.items (λ k. (g.M.Model.meaning l.model).birth ((g.R.Source.supply l.initial.source).to_come k));
  number : length l.tips.items ≡ l.counter;
  rest : g.R.Source.supply l.source ≡ after l.counter (g.R.Source.supply l.initial.source);
  same : g.R.Source.recorded l.source ≡ g.R.Source.recorded l.initial.source;
  free : l.self.free + l.counter ≡ l.initial.self.free;
}
