use Rattle.std.proofs.Common.{take}
use Rattle.std.specs.Fmt.{IsPlainFormatter, HasWritten}
use Rattle.fields.specs.Written.{each_after_comma}
use Rattle.fields.proofs.written.AfterCommasDisplay.fmt.Given as goal

-- what was written so far
abbrev pub invariant-loop-number : goal.invariant-loop-number
invariant-loop-number g l = IsPlainFormatter l.initial.f → HasWritten g.W.Write.write_str_gives l.initial.f (each_after_comma (take l.number-index l.self.0.now)) l.f
