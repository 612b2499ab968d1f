-- How many children particles get from a list of parents, in whatever order it stands. Assumes nothing.
use Rattle.std.specs.Prelude.{◌≡◌, ℕ, ◌+◌, ◌-◌, ◌*◌, ◌/◌, ◌≤◌, Bool, ◌&&◌, ◌⊎◌, List, map, length, count_by, nat_le, nat_lt}
use Rattle.std.specs.List.{range_with_len}
use Rattle.resampling.specs.Marks.{total, before}

-- p is one of the particles from i up to but without j
abbrev pub among : ℕ → ℕ → ℕ → Bool
among i j p = nat_le i p && nat_lt p j

-- the children of the particles from i up to but without j
abbrev pub children : List ℕ → ℕ → ℕ → ℕ
children ps i j = count_by (among i j) ps

-- the children of each particle
abbrev pub children_of_each : List ℕ → List ℕ
children_of_each ps = map (λ i. children ps i (i + 1)) (range_with_len 0 (length ps))

-- n is a / b, rounded down or rounded up
abbrev pub Rounded : ℕ → ℕ → ℕ → Type 0
Rounded n a b = (n ≡ a / b) ⊎ (n ≡ (a + (b - 1)) / b)

-- every run of neighbours gets the floor or the ceiling of its joint share, N times their weights divided by W
abbrev pub Fair : List ℕ → List ℕ → Type 0
Fair ws ps = (i j : ℕ) → i ≤ j → j ≤ length ws → Rounded (children ps i j) (length ws * (before ws j - before ws i)) (total ws)
