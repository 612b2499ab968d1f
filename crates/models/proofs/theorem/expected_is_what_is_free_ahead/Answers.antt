use Rattle.models.proofs.Readings.{free_ahead}
use Rattle.models.proofs.theorem.expected_is_what_is_free_ahead.Goals as goal

pub returns : goal.returns
returns c = free_ahead
