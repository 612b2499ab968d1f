use Rattle.std.proofs.Common.{rules}
use Rattle.std.proofs.iter.runs.Sources.{sums}
use Rattle.resampling.proofs.total.sum_of.Goals as goal

pub returns-clause-bound : goal.returns-clause-bound
returns-clause-bound c = search (rules, sums)
