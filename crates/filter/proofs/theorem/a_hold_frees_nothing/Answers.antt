use Rattle.filter.proofs.Holds.{hold_frees_nothing}
use Rattle.filter.proofs.theorem.a_hold_frees_nothing.Goals as goal

pub returns : goal.returns
returns g c = hold_frees_nothing _
