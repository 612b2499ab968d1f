-- Rows of states that a model gives with the numbers to come. Assumes nothing.
use Rattle.std.specs.Prelude.{ℕ, ◌+◌, Bool, List, [], ◌∷◌, map}
use Rattle.std.specs.List.{range_with_len, list_all}
use Rattle.sources.specs.Supplies.{Supply}
use Rattle.models.specs.Kinds.{Kind}
use Rattle.models.specs.Meanings.{Meaning}

-- the births of the first n numbers to come
abbrev pub births : {S : Type 0} → Meaning S → Supply → ℕ → List S
births m s n = map (λ k. m.birth (s.to_come k)) (range_with_len 0 n)

-- each value of the row moved under the command, the first by the k-th number to come and each later one by the next
abbrev pub moves_from : {S : Type 0} → Meaning S → ℕ → Supply → ℕ → List S → List S
moves_from m c s k [] = []
moves_from m c s k (x ∷ xs) = m.move x c (s.to_come k) ∷ moves_from m c s (k + 1) xs

-- each value of the row moved under the command by a number of its own
abbrev pub moves : {S : Type 0} → Meaning S → ℕ → Supply → List S → List S
moves m c s xs = moves_from m c s 0 xs

-- every value of the row is a state
abbrev pub all_states : {S : Type 0} → Kind S → List S → Bool
all_states k xs = list_all k.is xs
