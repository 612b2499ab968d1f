use Rattle.std.proofs.Common.{◌≡◌, ◌-◌, ◌*◌, ◌≤◌, length}
use Rattle.resampling.specs.Marks.{before}
use Rattle.resampling.proofs.parents.Pass.owner_of.Given as goal

-- no particle before has the mark
abbrev pub invariant-loop-self : goal.invariant-loop-self
invariant-loop-self l =
    let ws = l.initial.self.weights.now in
    (l.self.weights.now ≡ ws) × (length ws * before ws l.self.particle ≤ l.mark)

abbrev pub decreases-loop-self : goal.decreases-loop-self
decreases-loop-self l = length l.self.weights.now - l.self.particle
