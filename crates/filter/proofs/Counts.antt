-- How many different numbers a list has. Assumes nothing.
use Rattle.std.proofs.Common.{◌≡◌, ℕ, zero, suc, ◌+◌, ◌<◌, ◌≤◌, Bool, true, false, cond, ◌||◌, eqb, ◌⊎◌, List, [], ◌∷◌, ◌++◌, sym, refl, ap, ◌∙◌, inl, inr, zero-le, not-suc-le-zero, add-zero, add-suc, arith}
use Rattle.std.specs.List.{AllByRecursion}
use Rattle.std.proofs.lemmas.Bool.{ne_eqb}
use Rattle.std.proofs.lemmas.Bool.Decides.{eqb_tells}
use Rattle.filter.specs.Uses.{member, different}

unfoldable pub one_if : Bool → ℕ
one_if true = 1
one_if false = 0

-- how many numbers below the bound pass
unfoldable pub count : (ℕ → Bool) → ℕ → ℕ
count p zero = 0
count p (suc n) = count p n + one_if (p n)

pub count_ext : (p q : ℕ → Bool) (b : ℕ) → ((s : ℕ) → s < b → p s ≡ q s) → count p b ≡ count q b
unfolding count
count_ext p q zero h = refl
count_ext p q (suc b) h = omega (arith, count_ext p q b (λ s l. h s (omega arith)), ap one_if (h b (omega arith)))

one_mono : (a b : Bool) → (a ≡ true → b ≡ true) → one_if a ≤ one_if b
unfolding one_if
one_mono true b h = rw (h refl) (omega arith)
one_mono false b h = zero-le

pub count_mono : (p q : ℕ → Bool) (b : ℕ) → ((s : ℕ) → p s ≡ true → q s ≡ true) → count p b ≤ count q b
unfolding count
count_mono p q zero h = zero-le
count_mono p q (suc b) h = omega (arith, count_mono p q b h, one_mono (p b) (q b) (h b))

pub count_grow : (p q : ℕ → Bool) (b n : ℕ) → ((s : ℕ) → s < b → p s ≡ q s) → ((s : ℕ) → b ≤ s → s < b + n → p s ≡ true) → count p (b + n) ≡ count q b + n
unfolding count one_if
count_grow p q b zero h k = rw (add-zero, add-zero) (count_ext p q b h)
count_grow p q b (suc n) h k = rw add-suc (omega (arith, count_grow p q b n h (λ s l u. k s l (omega arith)), ap one_if (k (b + n) (omega arith) (omega arith))))

count_none : (b : ℕ) → count (λ s. false) b ≡ 0
unfolding count one_if
count_none zero = refl
count_none (suc b) = omega (arith, count_none b)

abbrev Eq? : ℕ → ℕ → Type 0
Eq? a b = ((eqb a b ≡ true) × (a ≡ b)) ⊎ ((eqb a b ≡ false) × (a ≡ b → ⊥))

-- one number more
count_or : (p : ℕ → Bool) (x b : ℕ) → x < b → count (λ s. eqb s x || p s) b ≡ cond (p x) 0 1 + count p b
unfolding count one_if
count_or p x zero h = absurd (not-suc-le-zero h)
count_or p x (suc b) h = go (eqb_tells b x) (λ l. count_or p x b l)
  where
    last : (t : Bool) → cond t 0 1 + one_if t ≡ 1
    last true = refl
    last false = refl

    go : Eq? b x → (x < b → count (λ s. eqb s x || p s) b ≡ cond (p x) 0 1 + count p b) → count (λ s. eqb s x || p s) b + one_if (eqb b x || p b) ≡ cond (p x) 0 1 + (count p b + one_if (p b))
    go (inl e) ih =
        let u : b ≡ x = e.1 in
        omega (
          arith,
          count_ext (λ s. eqb s x || p s) p b (λ s l. ap (λ t. t || p s) (ne_eqb s x (λ q. omega arith))),
          ap (λ t. one_if (t || p b)) e.0,
          ap (λ k. one_if (p k)) e.1,
          last (p x),
        )
    go (inr e) ih =
        let u : b ≡ x → ⊥ = e.1 in
        omega (arith, ih (omega arith), ap (λ t. one_if (t || p b)) e.0)

-- the different ones of numbers below the bound are the members below it
pub different_is : (xs : List ℕ) (b : ℕ) → AllByRecursion (λ x. x < b) xs → different xs ≡ count (λ s. member s xs) b
different_is [] b h = sym (count_none b)
different_is (x ∷ xs) b h = ap (λ n. cond (member x xs) 0 1 + n) (different_is xs b h.1) ∙ sym (count_or (λ s. member s xs) x b h.0)

pub member_append : (s : ℕ) (xs ys : List ℕ) → member s (xs ++ ys) ≡ (member s xs || member s ys)
member_append s [] ys = refl
member_append s (x ∷ xs) ys = go (eqb s x) (member_append s xs ys)
  where
    go : (t : Bool) → member s (xs ++ ys) ≡ (member s xs || member s ys) → (t || member s (xs ++ ys)) ≡ ((t || member s xs) || member s ys)
    go true e = refl
    go false e = e
