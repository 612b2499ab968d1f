-- No path is longer than the nodes in use. Assumes nothing.
use Rattle.std.proofs.Common.{◌≡◌, ℕ, suc, ◌+◌, ◌<◌, ◌≤◌, Bool, false, cond, List, [], ◌∷◌, length, refl, ap, ◌∙◌, arith}
use Rattle.std.specs.List.{AllByRecursion}
use Rattle.std.proofs.ByRecursion.{All-weaker}
use Rattle.std.proofs.lemmas.Bool.{ne_eqb, or_from}
use Rattle.filter.specs.Filters.{Pair, PathOf}
use Rattle.filter.specs.Uses.{all_paths, serials_on, serials, member, different, in_use}
use Rattle.filter.specs.Sound.{Falling}
use Rattle.filter.specs.Theorems.{NoPathIsLongerThanTheNodesInUse}
use Rattle.filter.proofs.Alls.{all_both}
use Rattle.filter.proofs.Counts.{count_mono, different_is}
use Rattle.filter.proofs.Serials.{Low, low_paths, Covered, covered_self}

not_below : (s : ℕ) (xs : List ℕ) → AllByRecursion (λ x. x < s) xs → member s xs ≡ false
not_below s [] h = refl
not_below s (x ∷ xs) h = let l : x < s = h.0 in or_from _ _ (ne_eqb s x (λ e. omega arith)) (not_below s xs h.1)

module _ {S : Type 0} where
  -- the newest serial of a falling path is above all others
  low_rest : (x : Pair S) (p : PathOf S) → Falling (x ∷ p) → Low x.serial p
  low_rest x [] h = tt
  low_rest x (y ∷ p) h =
      let l : y.serial < x.serial = h.0 in
      (l, All-weaker (λ s. s < y.serial) (λ s. s < x.serial) (λ s k. omega arith) (serials_on p) (low_rest y p h.1))

  fall_rest : (x : Pair S) (p : PathOf S) → Falling (x ∷ p) → Falling p
  fall_rest x [] h = tt
  fall_rest x (y ∷ p) h = h.1

  all_different : (p : PathOf S) → Falling p → different (serials_on p) ≡ length p
  all_different [] h = refl
  all_different (x ∷ p) h =
      ap (λ (t : Bool). cond t 0 1 + different (serials_on p)) (not_below x.serial (serials_on p) (low_rest x p h))
      ∙ ap (λ (n : ℕ). 1 + n) (all_different p (fall_rest x p h))
      ∙ (let e : 1 + length p ≡ suc (length p) = omega arith in e)

pub lengths : (S : Type 0) → NoPathIsLongerThanTheNodesInUse S
unfolding in_use
lengths S f s =
    let b : ℕ = f.issued in
    let all : List ℕ = serials (all_paths f) in
    All-weaker (λ p. Falling p × (Low b p × Covered all p)) (λ p. length p ≤ different all)
    (λ p h.
    omega (
      arith,
      all_different p h.0,
      different_is (serials_on p) b h.1.0,
      different_is all b s.serials_below_issued,
      count_mono (λ x. member x (serials_on p)) (λ x. member x all) b h.1.1,
    ))
    (all_paths f)
    (all_both Falling (λ p. Low b p × Covered all p) (all_paths f) s.serials_fall
    (all_both (Low b) (Covered all) (all_paths f) (low_paths b (all_paths f) s.serials_below_issued) (covered_self all (all_paths f) (λ x e. e))))
