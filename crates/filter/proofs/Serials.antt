-- Serials on lists of paths: their bounds, and which of them stay. Assumes nothing.
use Rattle.std.proofs.Common.{◌≡◌, ℕ, zero, suc, ◌+◌, ◌<◌, ◌≤◌, true, false, ◌||◌, eqb, ◌⊎◌, List, [], ◌∷◌, ◌++◌, map, length, sym, refl, ap, ◌∙◌, inl, inr, not-suc-le-zero, arith}
use Rattle.std.specs.List.{range_with_len, AllByRecursion}
use Rattle.std.proofs.ByRecursion.{All-append, All-map, All-weaker}
use Rattle.std.proofs.lemmas.Bool.{ne_eqb, or_cases, or_left, or_right, false≢true}
use Rattle.std.proofs.lemmas.Bool.Decides.{eqb_tells}
use Rattle.models.specs.Meanings.{Meaning}
use Rattle.filter.specs.Filters.{PathOf, Filter}
use Rattle.filter.specs.Uses.{opened, all_paths, serials_on, serials, member, in_use}
use Rattle.filter.specs.Steps.{born, births, all_longer}
use Rattle.filter.specs.Sound.{Falling}
use Rattle.filter.proofs.Alls.{all_split, all_counting}
use Rattle.filter.proofs.Counts.{count_mono, count_grow, different_is, member_append}

module _ {S : Type 0} where
  -- the path has a state
  abbrev pub Begun : PathOf S → Type 0
  Begun p = 0 < length p

  -- all serials on a path are below b
  abbrev pub Low : ℕ → PathOf S → Type 0
  Low b p = AllByRecursion (λ s. s < b) (serials_on p)

  pub low_paths : (b : ℕ) (ps : List (PathOf S)) → AllByRecursion (λ s. s < b) (serials ps) → AllByRecursion (Low b) ps
  low_paths b [] h = tt
  low_paths b (p ∷ ps) h = let r = all_split (λ s. s < b) (serials_on p) (serials ps) h in (r.0, low_paths b ps r.1)

  pub low_serials : (b : ℕ) (ps : List (PathOf S)) → AllByRecursion (Low b) ps → AllByRecursion (λ s. s < b) (serials ps)
  low_serials b [] h = tt
  low_serials b (p ∷ ps) h = All-append (λ s. s < b) (serials_on p) (serials ps) h.0 (low_serials b ps h.1)

  pub low_more : (b c : ℕ) → b ≤ c → (ps : List (PathOf S)) → AllByRecursion (Low b) ps → AllByRecursion (Low c) ps
  low_more b c l ps h = All-weaker (Low b) (Low c) (λ p k. All-weaker (λ s. s < b) (λ s. s < c) (λ s u. omega arith) (serials_on p) k) ps h

  -- all serials on a path stand in the list
  abbrev pub Covered : List ℕ → PathOf S → Type 0
  Covered xs p = (s : ℕ) → member s (serials_on p) ≡ true → member s xs ≡ true

  pub covered_self : (xs : List ℕ) (ps : List (PathOf S)) → ((s : ℕ) → member s (serials ps) ≡ true → member s xs ≡ true) → AllByRecursion (Covered xs) ps
  covered_self xs [] h = tt
  covered_self xs (p ∷ ps) h = (
    (λ s e. h s (member_append s (serials_on p) (serials ps) ∙ or_left _ _ e)),
    covered_self xs ps (λ s e. h s (member_append s (serials_on p) (serials ps) ∙ or_right _ _ e)),
  )

  pub covered_all : (xs : List ℕ) (ps : List (PathOf S)) → AllByRecursion (Covered xs) ps → (s : ℕ) → member s (serials ps) ≡ true → member s xs ≡ true
  covered_all xs [] h s e = absurd (false≢true e)
  covered_all xs (p ∷ ps) h s e =
      elim (or_cases (member s (serials_on p)) (member s (serials ps)) (sym (member_append s (serials_on p) (serials ps)) ∙ e)) [ inl a ↦ h.0 s a | inr b ↦ covered_all xs ps h.1 s b ]

  -- the paths of f' are among those of f
  abbrev pub Among : Filter S → Filter S → Type 1
  Among f f' = (P : PathOf S → Type 0) → AllByRecursion P f.paths → AllByRecursion P (opened f.places) → AllByRecursion P (all_paths f')

  pub among : (P : PathOf S → Type 0) (f f' : Filter S) → Among f f' → AllByRecursion P (all_paths f) → AllByRecursion P (all_paths f')
  among P f f' a h = let r = all_split P f.paths (opened f.places) h in a P r.0 r.1

  -- fewer paths have no more serials
  pub in_use_among : (f f' : Filter S) → AllByRecursion (λ s. s < f.issued) (serials (all_paths f)) → Among f f' → in_use f' ≤ in_use f
  unfolding in_use
  in_use_among f f' low a =
      let b : ℕ = f.issued in
      let old : List ℕ = serials (all_paths f) in
      let new : List ℕ = serials (all_paths f') in
      let low' : AllByRecursion (λ s. s < b) new = low_serials b (all_paths f') (among (Low b) f f' a (low_paths b (all_paths f) low)) in
      omega (
        arith,
        different_is old b low,
        different_is new b low',
        count_mono (λ s. member s new) (λ s. member s old) b (covered_all old (all_paths f') (among (Covered old) f f' a (covered_self old (all_paths f) (λ s e. e)))),
      )

  -- n serials more
  pub in_use_grown : (f f' : Filter S) (n : ℕ) → AllByRecursion (λ s. s < f.issued) (serials (all_paths f)) → AllByRecursion (λ s. s < f.issued + n) (serials (all_paths f'))
      → ((s : ℕ) → s < f.issued → member s (serials (all_paths f')) ≡ member s (serials (all_paths f)))
      → ((s : ℕ) → f.issued ≤ s → s < f.issued + n → member s (serials (all_paths f')) ≡ true)
      → in_use f' ≡ in_use f + n
  unfolding in_use
  in_use_grown f f' n low low' old new =
      different_is (serials (all_paths f')) (f.issued + n) low'
      ∙ count_grow (λ s. member s (serials (all_paths f'))) (λ s. member s (serials (all_paths f))) f.issued n old new
      ∙ ap (λ x. x + n) (sym (different_is (serials (all_paths f)) f.issued low))

-- Serials that a start and an advance add

abbrev Eq? : ℕ → ℕ → Type 0
Eq? a b = ((eqb a b ≡ true) × (a ≡ b)) ⊎ ((eqb a b ≡ false) × (a ≡ b → ⊥))

module _ {S : Type 0} (m : Meaning S) (f : Filter S) where
  pub born_low : (n : ℕ) → AllByRecursion (Low (f.issued + n)) (births m f n)
  born_low n = All-map (Low (f.issued + n)) (born m f) (range_with_len 0 n) (all_counting (λ k. Low (f.issued + n) (born m f k)) 0 n (λ i l u. (omega arith, tt)))

  pub born_old : (s : ℕ) (hs : List (PathOf S)) (k n : ℕ) → s < f.issued + k → member s (serials (map (born m f) (range_with_len k n) ++ hs)) ≡ member s (serials hs)
  born_old s hs k zero h = refl
  born_old s hs k (suc n) h = rw (ne_eqb s (f.issued + k) (λ e. omega arith)) (born_old s hs (k + 1) n (omega arith))

  pub born_new : (s : ℕ) (hs : List (PathOf S)) (k n : ℕ) → f.issued + k ≤ s → s < f.issued + (k + n) → member s (serials (map (born m f) (range_with_len k n) ++ hs)) ≡ true
  born_new s hs k zero l u = absurd (let z : s < s = omega arith in omega arith)
  born_new s hs k (suc n) l u = go (eqb_tells s (f.issued + k)) (λ a. born_new s hs (k + 1) n a (omega arith))
    where
      rest : List ℕ
      rest = serials (map (born m f) (range_with_len (k + 1) n) ++ hs)

      go : Eq? s (f.issued + k) → (f.issued + (k + 1) ≤ s → member s rest ≡ true) → (eqb s (f.issued + k) || member s rest) ≡ true
      go (inl e) ih = or_left _ _ e.0
      go (inr e) ih = let d : s ≡ f.issued + k → ⊥ = e.1 in or_right _ _ (ih (omega arith))

  module _ (c : ℕ) where
    pub longer_low : (k : ℕ) (ps : List (PathOf S)) → AllByRecursion (Low f.issued) ps → AllByRecursion (Low (f.issued + (k + length ps))) (all_longer m f c k ps)
    longer_low k [] h = tt
    longer_low k ([] ∷ ps) h = (tt, low_more (f.issued + (k + 1 + length ps)) (f.issued + (k + suc (length ps))) (omega arith) (all_longer m f c (k + 1) ps) (longer_low (k + 1) ps h.1))
    longer_low k ((x ∷ p) ∷ ps) h = (
      (omega arith, All-weaker (λ s. s < f.issued) (λ s. s < f.issued + (k + suc (length ps))) (λ s u. omega arith) (serials_on (x ∷ p)) h.0),
      low_more (f.issued + (k + 1 + length ps)) (f.issued + (k + suc (length ps))) (omega arith) (all_longer m f c (k + 1) ps) (longer_low (k + 1) ps h.1),
    )

    pub longer_old : (s : ℕ) (hs : List (PathOf S)) (k : ℕ) (ps : List (PathOf S)) → AllByRecursion Begun ps → s < f.issued + k → member s (serials (all_longer m f c k ps ++ hs)) ≡ member s (serials (ps ++ hs))
    longer_old s hs k [] g h = refl
    longer_old s hs k ([] ∷ ps) g h = absurd (not-suc-le-zero g.0)
    longer_old s hs k ((x ∷ p) ∷ ps) g h =
        let a : List ℕ = serials_on (x ∷ p) in
        let new : List ℕ = serials (all_longer m f c (k + 1) ps ++ hs) in
        let old : List ℕ = serials (ps ++ hs) in
        let ih : member s new ≡ member s old = longer_old s hs (k + 1) ps g.1 (omega arith) in
        ap (λ b. b || member s (a ++ new)) (ne_eqb s (f.issued + k) (λ e. omega arith)) ∙ member_append s a new ∙ ap (λ b. member s a || b) ih ∙ sym (member_append s a old)

    pub longer_new : (s : ℕ) (hs : List (PathOf S)) (k : ℕ) (ps : List (PathOf S)) → AllByRecursion Begun ps → f.issued + k ≤ s → s < f.issued + (k + length ps) → member s (serials (all_longer m f c k ps ++ hs)) ≡ true
    longer_new s hs k [] g l u = absurd (let z : s < s = omega arith in omega arith)
    longer_new s hs k ([] ∷ ps) g l u = absurd (not-suc-le-zero g.0)
    longer_new s hs k ((x ∷ p) ∷ ps) g l u = go (eqb_tells s (f.issued + k)) (λ a. longer_new s hs (k + 1) ps g.1 a (omega arith))
      where
        a : List ℕ
        a = serials_on (x ∷ p)

        rest : List ℕ
        rest = serials (all_longer m f c (k + 1) ps ++ hs)

        go : Eq? s (f.issued + k) → (f.issued + (k + 1) ≤ s → member s rest ≡ true) → (eqb s (f.issued + k) || member s (a ++ rest)) ≡ true
        go (inl e) ih = or_left _ _ e.0
        go (inr e) ih = let d : s ≡ f.issued + k → ⊥ = e.1 in or_right _ _ (member_append s a rest ∙ or_right _ _ (ih (omega arith)))

    pub longer_fall : (k : ℕ) (ps : List (PathOf S)) → AllByRecursion Falling ps → AllByRecursion (Low f.issued) ps → AllByRecursion Falling (all_longer m f c k ps)
    longer_fall k [] h l = tt
    longer_fall k ([] ∷ ps) h l = (tt, longer_fall (k + 1) ps h.1 l.1)
    longer_fall k ((x ∷ p) ∷ ps) h l = let u : x.serial < f.issued = l.0.0 in ((omega arith, h.0), longer_fall (k + 1) ps h.1 l.1)

    pub longer_begun : (k : ℕ) (ps : List (PathOf S)) → AllByRecursion Begun ps → AllByRecursion Begun (all_longer m f c k ps)
    longer_begun k [] h = tt
    longer_begun k ([] ∷ ps) h = absurd (not-suc-le-zero h.0)
    longer_begun k ((x ∷ p) ∷ ps) h = (omega arith, longer_begun (k + 1) ps h.1)

    pub longer_even : (k r : ℕ) (ps : List (PathOf S)) → AllByRecursion (λ p. length p ≡ r + 1) ps → AllByRecursion (λ p. length p ≡ r + 1 + 1) (all_longer m f c k ps)
    longer_even k r [] h = tt
    longer_even k r ([] ∷ ps) h = absurd (let z : 0 ≡ r + 1 = h.0 in omega arith)
    longer_even k r ((x ∷ p) ∷ ps) h = let l : suc (length p) ≡ r + 1 = h.0 in (omega arith, longer_even (k + 1) r ps h.1)

    pub length-longer : (k : ℕ) (ps : List (PathOf S)) → length (all_longer m f c k ps) ≡ length ps
    length-longer k [] = refl
    length-longer k (p ∷ ps) = ap suc (length-longer (k + 1) ps)
