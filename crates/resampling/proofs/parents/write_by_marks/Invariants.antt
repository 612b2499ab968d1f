use Rattle.std.proofs.Common.{◌≡◌, ◌*◌, ◌≤◌, map, length, take}
use Rattle.std.specs.List.{range_with_len}
use Rattle.resampling.specs.Marks.{before, mark, parent}
use Rattle.resampling.proofs.parents.write_by_marks.Given as goal

-- the parents of the first new particles are written, and the pass stands at no particle past the next mark
abbrev pub invariant-loop-k : goal.invariant-loop-k
invariant-loop-k l =
    (l.pass.weights.now ≡ l.weights)
    × (length l.weights * before l.weights l.pass.particle ≤ mark l.weights l.first l.k)
    × (take l.k l.row ≡ map (parent l.weights l.first) (range_with_len 0 l.k))
