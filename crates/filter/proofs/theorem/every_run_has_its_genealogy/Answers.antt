use Rattle.filter.proofs.Genealogies.{genealogy}
use Rattle.filter.proofs.theorem.every_run_has_its_genealogy.Goals as goal

pub returns : goal.returns
returns g c = genealogy _
