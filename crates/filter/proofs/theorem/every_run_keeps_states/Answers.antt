use Rattle.filter.proofs.Genealogies.{run_states}
use Rattle.filter.proofs.theorem.every_run_keeps_states.Goals as goal

pub returns : goal.returns
returns g c = run_states _
