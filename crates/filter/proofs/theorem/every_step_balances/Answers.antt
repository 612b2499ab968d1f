use Rattle.filter.proofs.Sounds.{step_balances}
use Rattle.filter.proofs.theorem.every_step_balances.Goals as goal

pub returns : goal.returns
returns g c = step_balances _
