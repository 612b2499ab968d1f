-- Systematic resampling is fair, and what else its parents are. Assumes nothing.
use Rattle.std.proofs.Common.{◌≡◌, ℕ, zero, suc, ◌+◌, ◌-◌, ◌*◌, ◌/◌, ◌<◌, ◌≤◌, Bool, true, cond, ◌&&◌, ltb, leb, ◌⊎◌, List, [], ◌∷◌, map, length, get_or, count_by, sym, refl, ap, ◌∙◌, subst, inl, inr, zero-le, mul-le-mul_right, suc-mul, div-lt_iff_lt-mul, add-mul, mul-le-mul_left, mul-zero, le-div_iff_mul-le, zero-mul, add-one, arith, le-leb}
use native.Mathlib.Nat.{mul-sub}
use borrow.Author.Tests.{lt-leb}
use Rattle.std.specs.List.{range_with_len}
use Rattle.std.proofs.lemmas.List.FromFn.{length-map-range_with_len, get_or-map-range_with_len}
use Rattle.std.proofs.lemmas.List.Sums.{sum_by-cons}
use Rattle.resampling.specs.Marks.{total, before, mark, Has, parent, parents}
use Rattle.resampling.specs.Children.{among, children, Rounded, Fair}
use Rattle.resampling.specs.Systematic.{Systematic}
use Rattle.resampling.specs.Calls.{all_below}
use Rattle.resampling.proofs.Tallies.{below_from}
use Rattle.resampling.proofs.Owners.{Order, order, before_le_total, before_mono, before_all, before_more, mark_from_owner, owner_from_mark, owner_has, one_owner, mark_low}

one_if : Bool → ℕ
one_if t = cond t 1 0

-- how many of a list are below j
below : ℕ → List ℕ → ℕ
below j ps = count_by (λ p. ltb p j) ps

below_cons : (j p : ℕ) (ps : List ℕ) → below j (p ∷ ps) ≡ one_if (ltb p j) + below j ps
unfolding below one_if
below_cons j p ps = sum_by-cons (λ q. cond (ltb q j) 1 0) p ps

among_below : (p i j : ℕ) → i ≤ j → one_if (among i j p) + one_if (ltb p i) ≡ one_if (ltb p j)
unfolding one_if
among_below p i j h = go (order p i) (order p j)
  where
    go : Order p i → Order p j → cond (leb i p && ltb p j) 1 0 + cond (ltb p i) 1 0 ≡ cond (ltb p j) 1 0
    go (inl a) (inl b) = rw (lt-leb i p a.1, a.0, b.0)
    go (inl a) (inr b) = absurd (omega (arith, a.1, b.1))
    go (inr a) (inl b) = rw (le-leb i p a.1, a.0, b.0)
    go (inr a) (inr b) = rw (le-leb i p a.1, a.0, b.0)

children_cons : (p : ℕ) (ps : List ℕ) (i j : ℕ) → children (p ∷ ps) i j ≡ one_if (among i j p) + children ps i j
unfolding one_if
children_cons p ps i j = sum_by-cons (λ q. cond (among i j q) 1 0) p ps

children_below : (ps : List ℕ) (i j : ℕ) → i ≤ j → children ps i j + below i ps ≡ below j ps
unfolding below
children_below [] i j h = refl
children_below (p ∷ ps) i j h = go (children_below ps i j h)
  where
    go : children ps i j + below i ps ≡ below j ps → children (p ∷ ps) i j + below i (p ∷ ps) ≡ below j (p ∷ ps)
    go ih = omega (arith, children_cons p ps i j, below_cons i p ps, below_cons j p ps, among_below p i j h)

module _ (ws : List ℕ) (u : ℕ) where
  -- the parents of n new particles from k on
  run : ℕ → ℕ → List ℕ
  run k n = map (parent ws u) (range_with_len k n)

  run_more : (k n : ℕ) → run k (suc n) ≡ parent ws u k ∷ run (suc k) n
  unfolding run
  run_more k n = ap (λ (x : ℕ). parent ws u k ∷ map (parent ws u) (range_with_len x n)) (add-one k)

  -- t of the n marks from mark k on stand below b
  Counted : (k n b t : ℕ) → Type 0
  Counted k n b t = ((t * total ws + (u + k * total ws) < b + total ws) ⊎ (t ≡ 0)) × ((b ≤ u + (k * total ws + t * total ws)) ⊎ (t ≡ n))

  counted_more : (k n j t : ℕ) → j ≤ length ws → Counted (suc k) n (length ws * before ws j) t → Counted k (suc n) (length ws * before ws j) (one_if (ltb (parent ws u k) j) + t)
  unfolding Counted one_if
  counted_more k n j t hj = go (order o j)
    where
      o : ℕ
      o = parent ws u k

      W : ℕ
      W = total ws

      b : ℕ
      b = length ws * before ws j

      at_or_past : j ≤ o → b ≤ u + k * W
      at_or_past h = elim (order (u + k * W) b) [ inl e ↦ absurd (omega (arith, owner_from_mark ws (mark ws u k) j e.1)) | inr e ↦ e.1 ]

      sk : suc k * W ≡ k * W + W
      sk = suc-mul k W

      none : t ≡ 0 → t * W ≡ 0
      none e = ap (λ (x : ℕ). x * W) e ∙ zero-mul W

      st : (1 + t) * W ≡ W + t * W
      st = omega (arith, add-mul 1 t W)

      s0 : (0 + t) * W ≡ t * W
      s0 = ap (λ (x : ℕ). x * W) (omega arith)

      go : Order o j → Counted (suc k) n b t → Counted k (suc n) b (cond (ltb o j) 1 0 + t)
      go (inl e) ih =
          let m : u + k * W < b = mark_from_owner ws (mark ws u k) j hj e.1 in
          rw e.0 (
            elim ih.0 [ inl h ↦ inl (omega (arith, sk, st)) | inr z ↦ inl (omega (arith, sk, st, none z)) ],
            elim ih.1 [ inl h ↦ inl (omega (arith, sk, st)) | inr z ↦ inr (omega arith) ],
          )
      go (inr e) ih =
          let m : b ≤ u + k * W = at_or_past e.1 in
          let z : t ≡ 0 = elim ih.0 [ inl h ↦ absurd (omega (arith, sk)) | inr z ↦ z ] in
          rw e.0 (inr (omega arith), inl (omega (arith, s0)))

  counted : (k n j : ℕ) → j ≤ length ws → Counted k n (length ws * before ws j) (below j (run k n))
  unfolding Counted below run
  counted k zero j hj = (inr refl, inr refl)
  counted k (suc n) j hj =
      let same : one_if (ltb (parent ws u k) j) + below j (run (suc k) n) ≡ below j (run k (suc n)) = sym (ap (below j) (run_more k n) ∙ below_cons j (parent ws u k) (run (suc k) n)) in
      subst (λ (t : ℕ). Counted k (suc n) (length ws * before ws j) t) same (counted_more k n j (below j (run (suc k) n)) hj (counted (suc k) n j hj))

  -- the bounds that one count keeps
  Bounds : ℕ → ℕ → Type 0
  Bounds b t = (t * total ws + u < b + total ws) × (b ≤ u + t * total ws)

  bounds : (j : ℕ) → u < total ws → j ≤ length ws → Bounds (length ws * before ws j) (below j (parents ws u))
  unfolding Counted Bounds run
  bounds j hu hj = go (counted 0 (length ws) j hj)
    where
      W : ℕ
      W = total ws

      b : ℕ
      b = length ws * before ws j

      t : ℕ
      t = below j (parents ws u)

      z : 0 * W ≡ 0
      z = zero-mul W

      none : t ≡ 0 → t * W ≡ 0
      none e = ap (λ (x : ℕ). x * W) e ∙ zero-mul W

      all : t ≡ length ws → t * W ≡ length ws * W
      all e = ap (λ (x : ℕ). x * W) e

      most : b ≤ length ws * W
      most = mul-le-mul_left (length ws) (before_le_total ws j)

      go : Counted 0 (length ws) b t → Bounds b t
      go c = (
        elim c.0 [ inl h ↦ omega (arith, z) | inr e ↦ omega (arith, none e) ],
        elim c.1 [ inl h ↦ omega (arith, z) | inr e ↦ omega (arith, all e, most) ],
      )

-- n is y / W where y lies in the n-th stretch of length W
quotient_is : (n y W : ℕ) → 0 < W → n * W ≤ y → y < n * W + W → n ≡ y / W
quotient_is n y W hW a b =
    let p : n ≤ y / W = (le-div_iff_mul-le hW).1 a in
    let q : y / W < suc n = (div-lt_iff_lt-mul hW).1 (rw (suc-mul n W) b) in
    omega arith

rounded : (n x W : ℕ) → 0 < W → n * W < x + W → x < n * W + W → Rounded n x W
rounded n x W hW up down = go (order x (n * W))
  where
    go : Order x (n * W) → Rounded n x W
    go (inl e) = inr (quotient_is n (x + (W - 1)) W hW (omega arith) (omega (arith, e.1)))
    go (inr e) = inl (quotient_is n x W hW e.1 down)

fair : (ws : List ℕ) (u : ℕ) → u < total ws → Fair ws (parents ws u)
unfolding Bounds
fair ws u hu i j hij hj = rounded c (n * (before ws j - before ws i)) W (omega arith) (rw apart (omega (arith, bi.0, bi.1, bj.0, bj.1, prod, mono))) (rw apart (omega (arith, bi.0, bi.1, bj.0, bj.1, prod, mono)))
  where
    n : ℕ
    n = length ws

    W : ℕ
    W = total ws

    c : ℕ
    c = children (parents ws u) i j

    ti : ℕ
    ti = below i (parents ws u)

    tj : ℕ
    tj = below j (parents ws u)

    bi : (ti * W + u < n * before ws i + W) × (n * before ws i ≤ u + ti * W)
    bi = bounds ws u i hu (omega arith)

    bj : (tj * W + u < n * before ws j + W) × (n * before ws j ≤ u + tj * W)
    bj = bounds ws u j hu hj

    prod : c * W + ti * W ≡ tj * W
    prod = sym (add-mul c ti W) ∙ ap (λ (x : ℕ). x * W) (children_below (parents ws u) i j hij)

    mono : n * before ws i ≤ n * before ws j
    mono = mul-le-mul_left n (before_mono ws i j hij)

    apart : n * (before ws j - before ws i) ≡ n * before ws j - n * before ws i
    apart = mul-sub n (before ws j) (before ws i)

-- nothing is shared out to no weight
rounded_none : (n W : ℕ) → 0 < W → Rounded n 0 W → n ≡ 0
rounded_none n W hW (inl e) = e ∙ sym (quotient_is 0 0 W hW (omega (arith, zero-mul W)) (omega (arith, zero-mul W)))
rounded_none n W hW (inr e) = e ∙ sym (quotient_is 0 (0 + (W - 1)) W hW (omega (arith, zero-mul W)) (omega (arith, zero-mul W)))

-- a whole share is not rounded
rounded_whole : (n m W : ℕ) → 0 < W → Rounded n (m * W) W → n ≡ m
rounded_whole n m W hW (inl e) = e ∙ sym (quotient_is m (m * W) W hW (omega arith) (omega arith))
rounded_whole n m W hW (inr e) = e ∙ sym (quotient_is m (m * W + (W - 1)) W hW (omega arith) (omega arith))

module _ (ws : List ℕ) (u : ℕ) (hu : u < total ws) where
  parent_is : (k d : ℕ) → k < length ws → get_or (parents ws u) k d ≡ parent ws u k
  parent_is k d h = get_or-map-range_with_len (parent ws u) 0 (length ws) k k d h (omega arith)

  has_mark : (k : ℕ) → k < length ws → Has ws (parent ws u k) (mark ws u k)
  has_mark k h = owner_has ws (mark ws u k) (mark_low ws u k hu h)

  mark_mono : (j k : ℕ) → j ≤ k → mark ws u j ≤ mark ws u k
  mark_mono j k h = omega (arith, mul-le-mul_right (total ws) h)

  -- an earlier mark is not had by a later particle
  parent_mono : (j k : ℕ) → j ≤ k → k < length ws → parent ws u j ≤ parent ws u k
  parent_mono j k h hk =
      let has : Has ws (parent ws u k) (mark ws u k) = has_mark k hk in
      let low : mark ws u j < length ws * before ws (parent ws u k + 1) = omega (arith, has.upto, mark_mono j k h) in
      omega (arith, owner_from_mark ws (mark ws u j) (parent ws u k + 1) low)

  count_parents : length (parents ws u) ≡ length ws
  count_parents = length-map-range_with_len (parent ws u) 0 (length ws)

  pub systematic : Systematic ws u (parents ws u)
  systematic = record {
    count = count_parents;
    marked = λ k h. subst (λ (p : ℕ). Has ws p (mark ws u k)) (sym (parent_is k 0 h)) (has_mark k h);
    alone = λ k i h has. one_owner ws (mark ws u k) i (parent ws u k) has (has_mark k h) ∙ sym (parent_is k 0 h);
    never_fall = λ j k d h hk. let l : k < length ws = omega (arith, count_parents) in omega (arith, parent_mono j k h l, parent_is j d (omega arith), parent_is k d l);
    weightless_has_no_child = λ i h e.
        let none : length ws * (before ws (i + 1) - before ws i) ≡ 0 = ap (λ (x : ℕ). length ws * x) (omega (arith, before_more ws i h)) ∙ mul-zero (length ws) in
        rounded_none (children (parents ws u) i (i + 1)) (total ws) (omega arith) (subst (λ (x : ℕ). Rounded (children (parents ws u) i (i + 1)) x (total ws)) none (fair ws u hu i (i + 1) (omega arith) (omega arith)));
    every_run_of_neighbours_gets_its_share = fair ws u hu;
    children_in_all =
        let whole : length ws * (before ws (length ws) - before ws 0) ≡ length ws * total ws = ap (λ (x : ℕ). length ws * x) (omega (arith, before_all ws)) in
        rounded_whole (children (parents ws u) 0 (length ws)) (length ws) (total ws) (omega arith) (subst (λ (x : ℕ). Rounded (children (parents ws u) 0 (length ws)) x (total ws)) whole (fair ws u hu 0 (length ws) zero-le (omega arith)));
  }

-- every parent is a particle
pub parents_below : (ws : List ℕ) (u : ℕ) → u < total ws → all_below (length (parents ws u)) (parents ws u) ≡ true
parents_below ws u hu =
    let s : Systematic ws u (parents ws u) = systematic ws u hu in
    below_from (length (parents ws u)) (parents ws u) (λ k h. let l : k < length ws = omega (arith, s.count) in omega (arith, s.count, (s.marked k l).within))
