-- Laws of recorded rows, for whoever reasons about a recorded source: what draws leave of a row, and what recording adds to it.
use Rattle.std.specs.Prelude.{◌≡◌, ℕ, ◌+◌, ◌-◌, ◌^◌, ◌<◌, ◌≤◌, leb, List, [], ◌∷◌, ◌++◌, length, take, drop, Ok, Err, nat_le, slice_index, slice_set}
use Rattle.std.proofs.Common.{ap, sym, ◌∙◌, ⊎_elim, add_comm, arith, length-drop, length-take, get_or-drop, get_or-set_same, get_or-set_other}
use Rattle.std.proofs.Math.Path.{fun_ext}
use Rattle.std.proofs.lemmas.Bool.{le-leb, lt-leb, cases_lt, cases_eq, cond-true, cond-false}
use Rattle.std.proofs.lemmas.List.{set_past, take_more_set, drop-append-le}
use Rattle.refusals.specs.declared.Refusal.TheVariants.{SourceDry}
use Rattle.sources.specs.Supplies.{after, drawn, left}
use Rattle.sources.specs.Rows.{recorded_supply, Words}

leb_shift : (k m n : ℕ) → n ≤ m → nat_le k (m - n) ≡ nat_le (k + n) m
leb_shift k m n h = ⊎_elim
    (λ (l : m - n < k). lt-leb k (m - n) l ∙ sym (lt-leb (k + n) m (omega arith)))
    (λ (l : k ≤ m - n). le-leb k (m - n) l ∙ sym (le-leb (k + n) m (omega arith)))
    (cases_lt (m - n) k)

-- the row without its first n numbers has the supply once n numbers were drawn
pub row_after : (n : ℕ) (xs : List ℕ) → n ≤ length xs → recorded_supply (drop n xs) ≡ after n (recorded_supply xs)
row_after n xs h = λ j. record {
  to_come = fun_ext {f = λ k. slice_index (drop n xs) k} {g = λ k. slice_index xs (k + n)} (λ k. get_or-drop n xs k 0 ∙ ap (λ i. slice_index xs i) (add_comm n k)) j;
  can = fun_ext {f = λ k. nat_le k (length (drop n xs))} {g = λ k. nat_le (k + n) (length xs)} (λ k. ap (leb k) (length-drop n xs) ∙ leb_shift k (length xs) n h) j;
}

-- a draw from a row that has a number, and from one that has none
pub row_drawn : (xs : List ℕ) → 0 < length xs → drawn (recorded_supply xs) ≡ Ok (slice_index xs 0)
row_drawn xs h = cond-true (nat_le 1 (length xs)) _ _ (le-leb 1 (length xs) (omega arith))

pub row_left : (xs : List ℕ) → 0 < length xs → left (recorded_supply xs) ≡ recorded_supply (drop 1 xs)
row_left xs h = cond-true (nat_le 1 (length xs)) _ _ (le-leb 1 (length xs) (omega arith)) ∙ sym (row_after 1 xs (omega arith))

pub none_drawn : (xs : List ℕ) → length xs ≡ 0 → drawn (recorded_supply xs) ≡ Err SourceDry
none_drawn xs h = cond-false (nat_le 1 (length xs)) _ _ (lt-leb 1 (length xs) (omega arith))

pub none_left : (xs : List ℕ) → length xs ≡ 0 → left (recorded_supply xs) ≡ recorded_supply xs
none_left xs h = cond-false (nat_le 1 (length xs)) _ _ (lt-leb 1 (length xs) (omega arith))

-- one number more at the end of the part from p on
pub part_more : (p n : ℕ) (xs : List ℕ) (v : ℕ) → p ≤ n → n < length xs → drop p (take (n + 1) (slice_set xs n v)) ≡ drop p (take n xs) ++ (v ∷ [])
part_more p n xs v h l = ap (drop p) (take_more_set xs n v l) ∙ drop-append-le p (take n xs) (v ∷ []) (simp length-take (omega arith))

pub words_set : (xs : List ℕ) (i v : ℕ) → Words xs → v < 2 ^ 32 → Words (slice_set xs i v)
words_set xs i v w h k = ⊎_elim
    (λ (l : i < length xs). ⊎_elim
    (λ (e : k ≡ i). rw (e, get_or-set_same) h)
    (λ (e : k ≡ i → ⊥). rw get_or-set_other (w k))
    (cases_eq k i))
    (λ (l : length xs ≤ i). rw set_past (w k))
    (cases_lt i (length xs))
