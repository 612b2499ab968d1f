use Rattle.filter.proofs.Sounds.{step_sound}
use Rattle.filter.proofs.theorem.every_step_keeps_soundness.Goals as goal

pub returns : goal.returns
returns g c = step_sound _
