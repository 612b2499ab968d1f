use Rattle.std.proofs.Common.{◌≡◌, ℕ, ◌+◌, ◌<◌, length, get_or, take, drop}
use Rattle.resampling.specs.Children.{children}
use Rattle.resampling.proofs.children.tally.Given as goal

-- the children that each particle has among the parents so far
abbrev pub invariant-loop-parent : goal.invariant-loop-parent
invariant-loop-parent l =
    ((i : ℕ) → i < length l.parents → get_or l.counts i 0 ≡ children (take l.parent-index l.parents) i (i + 1))
    × (drop (length l.parents) l.counts ≡ drop (length l.parents) l.initial.counts)
