use Rattle.sources.specs.RowsLemmas.{words_zeros}
use Rattle.sources.proofs.recorded.Recorded.new.Goals as goal

pub invariant_of-result-clause-words : goal.invariant_of-result-clause-words
invariant_of-result-clause-words c = words_zeros 512
