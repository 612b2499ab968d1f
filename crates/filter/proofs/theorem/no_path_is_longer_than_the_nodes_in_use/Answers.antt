use Rattle.filter.proofs.Lengths.{lengths}
use Rattle.filter.proofs.theorem.no_path_is_longer_than_the_nodes_in_use.Goals as goal

pub returns : goal.returns
returns g c = lengths _
