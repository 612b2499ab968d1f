-- Paths that have the same serial are the same from there back. Assumes nothing.
use Rattle.std.proofs.Common.{◌≡◌, ℕ, zero, suc, ◌+◌, ◌<◌, ◌≤◌, List, [], ◌∷◌, ◌++◌, length, get_or, sym, ap, ◌∙◌, subst, le_of_suc-le-suc, not-suc-le-zero, arith}
use lib.ListN.{length-map}
use Rattle.std.specs.List.{AllByRecursion}
use Rattle.std.proofs.lemmas.List.FromFn.{length-map-range_with_len, get_or-map-range_with_len}
use Rattle.std.proofs.ByRecursion.{All-append, All-get_or, All-from_get_or, All-weaker}
use Rattle.models.specs.Meanings.{Meaning}
use Rattle.filter.specs.Filters.{Pair, PathOf, Filter}
use Rattle.filter.specs.Uses.{all_paths, serials_on}
use Rattle.filter.specs.Steps.{born, births, longer, all_longer}
use Rattle.filter.specs.Sound.{Agree, AllAgree}
use Rattle.filter.proofs.Alls.{all_both}
use Rattle.filter.proofs.Serials.{Low, Among, among, length-longer}

module _ {S : Type 0} where
  pub agree_sym : (p r : PathOf S) → Agree p r → Agree r p
  agree_sym p r a i j hi hj e = sym (a j i hj hi (sym e))

  -- a serial on a low path
  low_at : (b : ℕ) (p : PathOf S) (i : ℕ) → Low b p → i < length p → get_or (serials_on p) i 0 < b
  low_at b p i l h = All-get_or (λ s. s < b) (serials_on p) i 0 (rw length-map h) l

  -- a new pair before an old path
  pub agree_old : (b : ℕ) (x : Pair S) (p r : PathOf S) → b ≤ x.serial → Low b r → Agree p r → Agree (x ∷ p) r
  agree_old b x p r h l a zero j hi hj e = absurd (omega (arith, low_at b r j l hj))
  agree_old b x p r h l a (suc i) j hi hj e = a i j (le_of_suc-le-suc hi) hj e

  -- new pairs before two old paths
  pub agree_new : (b : ℕ) (x y : Pair S) (p r : PathOf S) → b ≤ x.serial → b ≤ y.serial → Low b p → Low b r → (x.serial ≡ y.serial → x ∷ p ≡ y ∷ r) → Agree p r → Agree (x ∷ p) (y ∷ r)
  agree_new b x y p r hx hy lp lr same a zero zero hi hj e = same e
  agree_new b x y p r hx hy lp lr same a zero (suc j) hi hj e = absurd (omega (arith, low_at b r j lr (le_of_suc-le-suc hj)))
  agree_new b x y p r hx hy lp lr same a (suc i) zero hi hj e = absurd (omega (arith, low_at b p i lp (le_of_suc-le-suc hi)))
  agree_new b x y p r hx hy lp lr same a (suc i) (suc j) hi hj e = a i j (le_of_suc-le-suc hi) (le_of_suc-le-suc hj) e

  agree_nothing : (r : PathOf S) → Agree [] r
  agree_nothing r i j hi hj e = absurd (not-suc-le-zero hi)

  -- new paths that agree, beside old ones
  pub agree_beside : (ns hs : List (PathOf S)) → AllAgree ns → AllByRecursion (λ n. AllByRecursion (Agree n) hs) ns → AllAgree hs → AllAgree (ns ++ hs)
  agree_beside ns hs nn nh hh =
      All-append (λ p. AllByRecursion (Agree p) (ns ++ hs)) ns hs
      (All-weaker (λ p. AllByRecursion (Agree p) ns × AllByRecursion (Agree p) hs) (λ p. AllByRecursion (Agree p) (ns ++ hs)) (λ p h. All-append (Agree p) ns hs h.0 h.1) ns (all_both (λ p. AllByRecursion (Agree p) ns) (λ p. AllByRecursion (Agree p) hs) ns nn nh))
      (All-weaker (λ p. AllByRecursion (Agree p) ns × AllByRecursion (Agree p) hs) (λ p. AllByRecursion (Agree p) (ns ++ hs)) (λ p h. All-append (Agree p) ns hs h.0 h.1) hs (all_both (λ p. AllByRecursion (Agree p) ns) (λ p. AllByRecursion (Agree p) hs) hs (turned ns hs nh) hh))
    where
      row : (h : PathOf S) (ns : List (PathOf S)) → AllByRecursion (λ n. Agree n h) ns → AllByRecursion (Agree h) ns
      row h ns a = All-weaker (λ n. Agree n h) (Agree h) (λ n. agree_sym n h) ns a

      turned : (ns hs : List (PathOf S)) → AllByRecursion (λ n. AllByRecursion (Agree n) hs) ns → AllByRecursion (λ h. AllByRecursion (Agree h) ns) hs
      turned ns [] a = tt
      turned ns (h ∷ hs) a = (
        row h ns (All-weaker (λ n. AllByRecursion (Agree n) (h ∷ hs)) (λ n. Agree n h) (λ n k. k.0) ns a),
        turned ns hs (All-weaker (λ n. AllByRecursion (Agree n) (h ∷ hs)) (λ n. AllByRecursion (Agree n) hs) (λ n k. k.1) ns a),
      )

  pub agree_among : (f f' : Filter S) → Among f f' → AllAgree (all_paths f) → AllAgree (all_paths f')
  agree_among f f' a h =
      among (λ p. AllByRecursion (Agree p) (all_paths f')) f f' a
      (All-weaker (λ p. AllByRecursion (Agree p) (all_paths f)) (λ p. AllByRecursion (Agree p) (all_paths f')) (λ p k. among (Agree p) f f' a k) (all_paths f) h)

module _ {S : Type 0} (m : Meaning S) (f : Filter S) where
  -- births
  born_agree : (i j : ℕ) → Agree (born m f i) (born m f j)
  born_agree i j =
      agree_new f.issued _ _ [] [] (omega arith) (omega arith) tt tt (λ e. ap (born m f) (let k : i ≡ j = omega arith in k)) (agree_nothing [])

  pub births_agree : (n : ℕ) → AllAgree (births m f n)
  births_agree n =
      All-from_get_or (λ p. AllByRecursion (Agree p) (births m f n)) (births m f n) []
      (λ i hi. All-from_get_or (Agree (get_or (births m f n) i [])) (births m f n) []
      (λ j hj.
      let li : i < n = rw (length-map-range_with_len (born m f) 0 n) at hi in
      let lj : j < n = rw (length-map-range_with_len (born m f) 0 n) at hj in
      subst (λ (p : PathOf S). Agree p (get_or (births m f n) j [])) (sym (get_or-map-range_with_len (born m f) 0 n i i [] li (omega arith)))
      (subst (λ (p : PathOf S). Agree (born m f i) p) (sym (get_or-map-range_with_len (born m f) 0 n j j [] lj (omega arith))) (born_agree i j))))

  pub births_agree_old : (n : ℕ) (hs : List (PathOf S)) → AllByRecursion (Low f.issued) hs → AllByRecursion (λ p. AllByRecursion (Agree p) hs) (births m f n)
  births_agree_old n hs l =
      All-from_get_or (λ p. AllByRecursion (Agree p) hs) (births m f n) []
      (λ i hi.
      let li : i < n = rw (length-map-range_with_len (born m f) 0 n) at hi in
      subst (λ (p : PathOf S). AllByRecursion (Agree p) hs) (sym (get_or-map-range_with_len (born m f) 0 n i i [] li (omega arith)))
      (All-weaker (Low f.issued) (Agree (born m f i)) (λ h k. agree_old f.issued _ [] h (omega arith) k (agree_nothing h)) hs l))

  -- moves
  module _ (c : ℕ) where
    longer_agree : (i j : ℕ) (p r : PathOf S) → Low f.issued p → Low f.issued r → (i ≡ j → p ≡ r) → Agree p r → Agree (longer m f c i p) (longer m f c j r)
    longer_agree i j [] r lp lr same a = agree_nothing (longer m f c j r)
    longer_agree i j (x ∷ p) [] lp lr same a = agree_sym [] (longer m f c i (x ∷ p)) (agree_nothing (longer m f c i (x ∷ p)))
    longer_agree i j (x ∷ p) (y ∷ r) lp lr same a =
        agree_new f.issued _ _ (x ∷ p) (y ∷ r) (omega arith) (omega arith) lp lr
        (λ e.
        let k : i ≡ j = omega arith in
        ap (λ (n : ℕ). longer m f c n (x ∷ p)) k ∙ ap (longer m f c j) (same k))
        a

    longer_agree_old : (i : ℕ) (p h : PathOf S) → Low f.issued h → Agree p h → Agree (longer m f c i p) h
    longer_agree_old i [] h l a = agree_nothing h
    longer_agree_old i (x ∷ p) h l a = agree_old f.issued _ (x ∷ p) h (omega arith) l a

    pub getD_longer : (k : ℕ) (ps : List (PathOf S)) (i : ℕ) → i < length ps → get_or (all_longer m f c k ps) i [] ≡ longer m f c (k + i) (get_or ps i [])
    getD_longer k [] i h = absurd (not-suc-le-zero h)
    getD_longer k (p ∷ ps) zero h = ap (λ (n : ℕ). longer m f c n p) (let e : k ≡ k + 0 = omega arith in e)
    getD_longer k (p ∷ ps) (suc i) h = getD_longer (k + 1) ps i (le_of_suc-le-suc h) ∙ ap (λ (n : ℕ). longer m f c n (get_or ps i [])) (let e : k + 1 + i ≡ k + suc i = omega arith in e)

    pub all_longer_agree : (ps : List (PathOf S)) → AllByRecursion (Low f.issued) ps → AllAgree ps → AllAgree (all_longer m f c 0 ps)
    all_longer_agree ps l a =
        All-from_get_or (λ p. AllByRecursion (Agree p) (all_longer m f c 0 ps)) (all_longer m f c 0 ps) []
        (λ i hi. All-from_get_or (Agree (get_or (all_longer m f c 0 ps) i [])) (all_longer m f c 0 ps) []
        (λ j hj.
        let li : i < length ps = rw (length-longer m f c 0 ps) at hi in
        let lj : j < length ps = rw (length-longer m f c 0 ps) at hj in
        subst (λ (p : PathOf S). Agree p (get_or (all_longer m f c 0 ps) j [])) (sym (getD_longer 0 ps i li))
        (subst (λ (p : PathOf S). Agree (longer m f c (0 + i) (get_or ps i [])) p) (sym (getD_longer 0 ps j lj))
        (longer_agree (0 + i) (0 + j) (get_or ps i []) (get_or ps j []) (All-get_or (Low f.issued) ps i [] li l) (All-get_or (Low f.issued) ps j [] lj l)
        (λ e. ap (λ (n : ℕ). get_or ps n []) (let k : i ≡ j = omega arith in k))
        (All-get_or (Agree (get_or ps i [])) ps j [] lj (All-get_or (λ p. AllByRecursion (Agree p) ps) ps i [] li a))))))

    pub all_longer_agree_old : (k : ℕ) (ps hs : List (PathOf S)) → AllByRecursion (Low f.issued) hs → AllByRecursion (λ p. AllByRecursion (Agree p) hs) ps → AllByRecursion (λ p. AllByRecursion (Agree p) hs) (all_longer m f c k ps)
    all_longer_agree_old k [] hs l a = tt
    all_longer_agree_old k (p ∷ ps) hs l a = (
      All-weaker (λ h. Low f.issued h × Agree p h) (Agree (longer m f c k p)) (λ h w. longer_agree_old k p h w.0 w.1) hs (all_both (Low f.issued) (Agree p) hs l a.0),
      all_longer_agree_old (k + 1) ps hs l a.1,
    )
