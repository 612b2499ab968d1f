use Rattle.logs.proofs.Forming.{lines_exact}
use Rattle.logs.proofs.Reasoning.{first_reason}
use Rattle.logs.proofs.law.lines_are_read_exactly_when_written.Goals as goal

pub returns : goal.returns
returns c = record { exact = lines_exact; first_reason = first_reason }
