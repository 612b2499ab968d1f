use Rattle.filter.proofs.States.{step_states}
use Rattle.filter.proofs.theorem.every_step_keeps_states.Goals as goal

pub returns : goal.returns
returns g c = step_states _
