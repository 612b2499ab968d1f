use Rattle.filter.proofs.Genealogies.{run_sound}
use Rattle.filter.proofs.theorem.every_run_is_sound.Goals as goal

pub returns : goal.returns
returns g c = run_sound _
