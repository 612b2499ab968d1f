use Rattle.std.proofs.Common.{rules}
use Rattle.exercise.proofs.Writing.{written_from_read, read_from_written}
use Rattle.exercise.proofs.input.read_exercise.Goals as goal

pub returns-in_err-line-clause-all : goal.returns-in_err-line-clause-all
returns-in_err-line-clause-all c = read_from_written c.args.input.now

pub returns-in_err-weights-clause-all : goal.returns-in_err-weights-clause-all
returns-in_err-weights-clause-all c = read_from_written c.args.input.now

pub returns-in_err-drawn-clause-all : goal.returns-in_err-drawn-clause-all
returns-in_err-drawn-clause-all c = read_from_written c.args.input.now

pub returns-clause-written : goal.returns-clause-written
returns-clause-written c = written_from_read c.args.input.now _ _ (search rules)

pub returns-clause-all : goal.returns-clause-all
returns-clause-all c = read_from_written c.args.input.now
