-- Which particle has a mark, and that no other has it. Assumes nothing.
use Rattle.std.proofs.Common.{◌≡◌, ℕ, zero, suc, ◌+◌, ◌*◌, ◌^◌, ◌<◌, ◌≤◌, Bool, true, false, ltb, ◌⊎◌, List, length, get_or, take, sum, refl, ap, ◌∙◌, subst, inl, inr, not-suc-le-zero, mul-le-mul_right, suc-mul, mul_comm, div-lt_iff_lt-mul, mul-le-mul_left, mul-lt-mul_of_pos_right, mul-zero, add-one, arith, lit<, ltb-false, ltb-true, leb-false, leb-true}
use Rattle.std.specs.List.{range_with_len}
use Rattle.std.proofs.lemmas.List.FromFn.{length-range_with_len, get_or-range_with_len}
use Rattle.std.proofs.lemmas.List.{take_all, take-take}
use Rattle.std.proofs.lemmas.List.Sums.{prefix_len-le-length, prefix_len_passes, prefix_len_stops, sum_by-take-le, sum_by_more}
use Rattle.resampling.specs.Marks.{total, before, offset, mark, Has, ends_before, owner}

-- one of two orders holds, as a test and as a fact
abbrev pub Order : ℕ → ℕ → Type 0
Order a b = ((ltb a b ≡ true) × (a < b)) ⊎ ((ltb a b ≡ false) × (b ≤ a))

pub order : (a b : ℕ) → Order a b
order a b = go (ltb a b) refl
  where
    go : (t : Bool) → ltb a b ≡ t → Order a b
    go true e = inl (e, ltb-true a b e)
    go false e = inr (e, ltb-false a b e)

-- a front weighs no more than the whole, and a longer one no less
pub before_le_total : (ws : List ℕ) (j : ℕ) → before ws j ≤ total ws
before_le_total ws j = sum_by-take-le (λ x. x) ws j

pub before_mono : (ws : List ℕ) (i j : ℕ) → i ≤ j → before ws i ≤ before ws j
before_mono ws i j h = subst (λ l. sum l ≤ before ws j) (take-take i j ws h) (sum_by-take-le (λ x. x) (take j ws) i)

pub before_all : (ws : List ℕ) → before ws (length ws) ≡ total ws
before_all ws = ap sum (take_all (length ws) ws (omega arith))

pub before_more : (ws : List ℕ) (i : ℕ) → i < length ws → before ws (i + 1) ≡ before ws i + get_or ws i 0
before_more ws i h = sum_by_more (λ x. x) ws i 0 h

module _ (ws : List ℕ) (m : ℕ) where
  owner_le : owner ws m ≤ length ws
  unfolding owner
  owner_le = omega (arith, prefix_len-le-length (ends_before ws m) (range_with_len 0 (length ws)), length-range_with_len 0 (length ws))

  -- the test of a particle stands at its place
  at : (j : ℕ) → j < length ws → ends_before ws m j ≡ ends_before ws m (get_or (range_with_len 0 (length ws)) j 0)
  at j h = ap (ends_before ws m) (omega (arith, get_or-range_with_len 0 (length ws) j 0 h))

  before_owner : (j : ℕ) → j < owner ws m → length ws * before ws (j + 1) ≤ m
  unfolding owner
  before_owner j h = leb-true _ _ (at j (omega (arith, owner_le)) ∙ prefix_len_passes (ends_before ws m) (range_with_len 0 (length ws)) j 0 h)

  past_owner : owner ws m < length ws → m < length ws * before ws (owner ws m + 1)
  unfolding owner
  past_owner h = leb-false _ _ (at (owner ws m) h ∙ prefix_len_stops (ends_before ws m) (range_with_len 0 (length ws)) 0 (omega (arith, length-range_with_len 0 (length ws))))

  -- the owner is below j exactly where the mark is below N × C(j)
  pub mark_from_owner : (j : ℕ) → j ≤ length ws → owner ws m < j → m < length ws * before ws j
  mark_from_owner j hj h =
      let past : m < length ws * before ws (owner ws m + 1) = past_owner (omega arith) in
      omega (arith, mul-le-mul_left (length ws) (before_mono ws (owner ws m + 1) j (omega arith)))

  pub owner_from_mark : (j : ℕ) → m < length ws * before ws j → owner ws m < j
  owner_from_mark zero h = absurd (not-suc-le-zero (rw mul-zero at h))
  owner_from_mark (suc i) h = go (order i (owner ws m))
    where
      go : Order i (owner ws m) → owner ws m < suc i
      go (inl l) = absurd (omega (arith, before_owner i l.1, ap (λ k. length ws * before ws k) (add-one i)))
      go (inr l) = omega (arith, l.1)

  pub owner_has : m < length ws * total ws → Has ws (owner ws m) m
  owner_has low = record { within = inside; from = from (owner ws m) before_owner; upto = past_owner inside }
    where
      inside : owner ws m < length ws
      inside = owner_from_mark (length ws) (rw (before_all ws) low)

      from : (o : ℕ) → ((j : ℕ) → j < o → length ws * before ws (j + 1) ≤ m) → length ws * before ws o ≤ m
      from zero f = omega (arith, mul-zero (length ws))
      from (suc j) f = omega (arith, f j (omega arith), ap (λ k. length ws * before ws k) (add-one j))

  pub one_owner : (i j : ℕ) → Has ws i m → Has ws j m → i ≡ j
  one_owner i j a b = go (order i j) (order j i)
    where
      go : Order i j → Order j i → i ≡ j
      go (inl e) f = let l = e.1 in absurd (omega (arith, mul-le-mul_left (length ws) (before_mono ws (i + 1) j (omega arith))))
      go (inr e) (inl f) = let l = f.1 in absurd (omega (arith, mul-le-mul_left (length ws) (before_mono ws (j + 1) i (omega arith))))
      go (inr e) (inr f) = omega (arith, e.1, f.1)

-- the mark is not before that particle's, and before where its marks end
pub is_owner : (ws : List ℕ) (m i : ℕ) → m < length ws * total ws → i < length ws → length ws * before ws i ≤ m → m < length ws * before ws (i + 1) → i ≡ owner ws m
is_owner ws m i low within from upto = one_owner ws m i (owner ws m) (record { within = within; from = from; upto = upto }) (owner_has ws m low)

pub mark_low : (ws : List ℕ) (u k : ℕ) → u < total ws → k < length ws → mark ws u k < length ws * total ws
mark_low ws u k hu hk = omega (arith, suc-mul k (total ws), mul-le-mul_right (total ws) hk)

pub mark_more : (ws : List ℕ) (u k : ℕ) → mark ws u k + total ws ≡ mark ws u (k + 1)
mark_more ws u k = rw add-one (omega (arith, suc-mul k (total ws)))

pub offset_below : (r w : ℕ) → 0 < w → r < 2 ^ 32 → offset r w < w
offset_below r w hw hr = (div-lt_iff_lt-mul {k = 2 ^ 32} (lit< tt)).1 (rw (mul_comm w (2 ^ 32)) (mul-lt-mul_of_pos_right hr hw))
