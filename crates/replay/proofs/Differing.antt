-- Where a text has ended, and that only equal texts do not differ. Assumes nothing.
use Rattle.std.proofs.Common.{zero, suc, min, ◌≡◌, ℕ, ◌+◌, cond, eqb, List, [], ◌∷◌, length, drop, Some, None, refl, arith}
use Rattle.std.proofs.lemmas.Grind.{common_steps}
use Rattle.replay.specs.Differences.{differs_in}

-- the line after a byte
abbrev pub line_after : ℕ → ℕ → ℕ
line_after x k = cond (eqb x 10) (k + 1) k

-- where one text has ended, they differ unless both have
pub ends : (k : ℕ) (xs ys : List ℕ) (n : ℕ) → n ≡ min (length xs) (length ys) → differs_in k (drop n xs) (drop n ys) ≡ cond (eqb (length xs) (length ys)) None (Some k)
ends k [] [] n e = grind (arith, common_steps)
ends k [] (y ∷ ys) n e = grind (arith, common_steps)
ends k (x ∷ xs) [] n e = grind (arith, common_steps)
ends k (x ∷ xs) (y ∷ ys) zero e = grind (arith, common_steps)
ends k (x ∷ xs) (y ∷ ys) (suc n) e = let rest = ends k xs ys n (omega arith) in grind (arith, common_steps)

pub same_from_none : (k : ℕ) (xs ys : List ℕ) → differs_in k xs ys ≡ None → xs ≡ ys
same_from_none k [] [] h = refl
same_from_none k [] (y ∷ ys) h = cc
same_from_none k (x ∷ xs) [] h = cc
same_from_none k (x ∷ xs) (y ∷ ys) h = let rest = same_from_none (line_after x k) xs ys in grind (arith, common_steps)

pub none_at_same : (k : ℕ) (xs : List ℕ) → differs_in k xs xs ≡ None
none_at_same k [] = refl
none_at_same k (x ∷ xs) = let rest = none_at_same (line_after x k) xs in grind (arith, common_steps)
