use Rattle.cloud.proofs.Exactness.{trees_are_exact}
use Rattle.cloud.proofs.theorem.trees_are_exact.Goals as goal

pub returns : goal.returns
returns c = trees_are_exact
