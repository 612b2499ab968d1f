use Rattle.cloud.proofs.Ancestries.{run_ancestry}
use Rattle.cloud.proofs.theorem.every_run_has_its_ancestry.Goals as goal

pub returns : goal.returns
returns g c = run_ancestry _
