use Rattle.std.proofs.Common.{◌≡◌, ℕ, ◌<◌, ◌≤◌, get_or, Ok}
use Rattle.sources.specs.Supplies.{after}
use Rattle.draws.proofs.steps.step_all.Given as goal

-- so many numbers were drawn, so many places were made, and the others are as they were
abbrev pub invariant-loop-place : goal.invariant-loop-place
invariant-loop-place g l =
    let s = g.R.Source.supply l.initial.source in
    (g.R.Source.supply l.source ≡ after l.place-index s)
    × ((k : ℕ) (d : _) → k < l.place-index → goal.F-post g l.step (get_or l.initial.row k d) (s.to_come k) (Ok (get_or l.row k d)))
    × ((k : ℕ) (d : _) → l.place-index ≤ k → get_or l.row k d ≡ get_or l.initial.row k d)
