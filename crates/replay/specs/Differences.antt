-- Where two texts begin to differ. Assumes nothing.
use Rattle.std.specs.Prelude.{ℕ, ◌+◌, cond, List, [], ◌∷◌, Some, None, Option, ◌==◌}

-- the number of the first line in which they differ, where the first line has the number k
abbrev pub differs_in : ℕ → List ℕ → List ℕ → Option ℕ
differs_in k [] [] = None
differs_in k [] (y ∷ ys) = Some k
differs_in k (x ∷ xs) [] = Some k
differs_in k (x ∷ xs) (y ∷ ys) = cond (x == y) (differs_in (cond (x == 10) (k + 1) k) xs ys) (Some k)
