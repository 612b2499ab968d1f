use Rattle.std.proofs.Common.{rules}
use Rattle.fields.proofs.Digits.{step}
use Rattle.fields.proofs.number.number_within.Goals as goal

pub returns-in_err-checked_mul : goal.returns-in_err-checked_mul
returns-in_err-checked_mul c = let s = step _ _ c.loop-byte-test.true c.requires in search rules
