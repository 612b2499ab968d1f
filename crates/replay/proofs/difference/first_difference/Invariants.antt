use Rattle.std.proofs.Common.{◌≡◌, ◌+◌, ◌≤◌, length, drop}
use Rattle.replay.specs.Differences.{differs_in}
use Rattle.replay.proofs.difference.first_difference.Given as goal

-- the rest differs where the whole does, and no more lines have ended than bytes were read
abbrev pub invariant-loop-have : goal.invariant-loop-have
invariant-loop-have l =
    (differs_in l.line (drop (length l.yielded) l.got) (drop (length l.yielded) l.wanted) ≡ differs_in 1 l.got l.wanted)
    × (l.line ≤ length l.yielded + 1)
