use Rattle.filter.proofs.Replies.{call_replied}
use Rattle.filter.proofs.theorem.every_call_has_a_reply.Goals as goal

pub returns : goal.returns
returns g c = call_replied _
