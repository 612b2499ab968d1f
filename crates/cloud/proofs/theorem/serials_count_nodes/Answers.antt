use Rattle.cloud.proofs.Serials.{serials_count_nodes}
use Rattle.cloud.proofs.theorem.serials_count_nodes.Goals as goal

pub returns : goal.returns
returns c = serials_count_nodes
