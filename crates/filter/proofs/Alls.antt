-- What holds of each element of a list, and of each open place. Assumes nothing.
use Rattle.std.proofs.Common.{ℕ, zero, suc, ◌+◌, ◌<◌, ◌≤◌, List, [], ◌∷◌, ◌++◌, set, Some, None, Option, arith}
use Rattle.std.specs.List.{range_with_len, AllByRecursion}
use Rattle.filter.specs.Filters.{PathOf}
use Rattle.filter.specs.Uses.{opened}

pub all_split : {A : Type 0} (P : A → Type 0) (xs ys : List A) → AllByRecursion P (xs ++ ys) → AllByRecursion P xs × AllByRecursion P ys
all_split P [] ys h = (tt, h)
all_split P (x ∷ xs) ys h = let r = all_split P xs ys h.1 in ((h.0, r.0), r.1)

pub all_both : {A : Type 0} (P Q : A → Type 0) (xs : List A) → AllByRecursion P xs → AllByRecursion Q xs → AllByRecursion (λ x. P x × Q x) xs
all_both P Q [] h k = tt
all_both P Q (x ∷ xs) h k = ((h.0, k.0), all_both P Q xs h.1 k.1)

pub all_counting : (P : ℕ → Type 0) (k n : ℕ) → ((i : ℕ) → k ≤ i → i < k + n → P i) → AllByRecursion P (range_with_len k n)
all_counting P k zero h = tt
all_counting P k (suc n) h = (h k (omega arith) (omega arith), all_counting P (k + 1) n (λ i l u. h i (omega arith) (omega arith)))

module _ {S : Type 0} (P : PathOf S → Type 0) where
  -- a path more in a place
  pub all_opened : (ps : List (Option (PathOf S))) (i : ℕ) (p : PathOf S) → P p → AllByRecursion P (opened ps) → AllByRecursion P (opened (set ps i (Some p)))
  all_opened [] i p h k = k
  all_opened (None ∷ ps) zero p h k = (h, k)
  all_opened (Some r ∷ ps) zero p h k = (h, k.1)
  all_opened (None ∷ ps) (suc i) p h k = all_opened ps i p h k
  all_opened (Some r ∷ ps) (suc i) p h k = (k.0, all_opened ps i p h k.1)

  -- a place closed
  pub all_closed : (ps : List (Option (PathOf S))) (i : ℕ) → AllByRecursion P (opened ps) → AllByRecursion P (opened (set ps i None))
  all_closed [] i k = k
  all_closed (None ∷ ps) zero k = k
  all_closed (Some r ∷ ps) zero k = k.1
  all_closed (None ∷ ps) (suc i) k = all_closed ps i k
  all_closed (Some r ∷ ps) (suc i) k = (k.0, all_closed ps i k.1)
