use Rattle.filter.proofs.Refusals.{refused_stays}
use Rattle.filter.proofs.theorem.a_refused_call_changes_nothing.Goals as goal

pub returns : goal.returns
returns g c = refused_stays _
