use Rattle.std.proofs.Common.{rules}
use Rattle.exercise.proofs.Writing.{written_report}
use Rattle.exercise.proofs.report.report.Goals as goal

pub returns-in-Ok-clause-worked : goal.returns-in-Ok-clause-worked
returns-in-Ok-clause-worked c = written_report c.args.input.now c.format.result (search rules)

pub returns-in-Err-Told-clause-worked : goal.returns-in-Err-Told-clause-worked
returns-in-Err-Told-clause-worked c = written_report c.args.input.now c.format-in-Err-Told.result (search rules)
