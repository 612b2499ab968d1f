-- As many serials are in use in the filter as nodes in the tree.
use Rattle.std.proofs.Common.{◌≡◌, ℕ, zero, suc, ◌+◌, ◌<◌, Bool, true, false, ◌||◌, eqb, List, [], ◌∷◌, ◌++◌, map, length, get_or, Some, None, sum_by, Option, sym, refl, ap, ◌∙◌, subst, inl, inr, ⊎_elim, arith}
use Rattle.std.specs.List.{AllByRecursion}
use Rattle.std.proofs.ByRecursion.{All-append, All-from_get_or}
use Rattle.std.proofs.lemmas.Bool.Decides.{eqb_tells}
use Rattle.std.proofs.lemmas.Option.{none-some}
use Rattle.std.proofs.lemmas.Bool.{cases_eq, cases_lt, cases_Bool, or_left, or_right, eq-eqb, false≢true, or_cases}
use Rattle.filter.specs.Filters.{PathOf, Filter}
use Rattle.filter.specs.Uses.{opened, all_paths, serials, member, different, in_use}
use Rattle.filter.proofs.Counts.{one_if, count, different_is, member_append}
use Rattle.cloud.specs.Links.{Link, links, states, link_at}
use Rattle.cloud.specs.Trees.{is_node, is_named, occurrences, Chain, Tree}
use Rattle.cloud.specs.Tracks.{Track, named}
use Rattle.cloud.specs.Serials.{total, sign}
use Rattle.cloud.specs.Representations.{View, Represents, Alike}
use Rattle.cloud.proofs.Links.{length-links}
use Rattle.cloud.proofs.Tallies.{is_node_other, is_node_eq, is_named_eq, sum-pick}
use Rattle.cloud.proofs.Trees.{named_used}
use Rattle.cloud.proofs.Naming.{particle_named, place_named}
use Rattle.cloud.proofs.Exactness.{trees_are_exact, parent_used}
use Rattle.cloud.proofs.Serials.{serials_count_nodes, sign_zero, sign_one}

sign_one_if : (t : Bool) → sign (one_if t) ≡ one_if t
unfolding one_if
sign_one_if true = sign_one 1 (omega arith)
sign_one_if false = sign_zero 0 refl

count_total : (p : ℕ → Bool) (b : ℕ) → count p b ≡ total (λ k. sign (one_if (p k))) b
unfolding count
count_total p zero = refl
count_total p (suc b) = omega (arith, count_total p b, sign_one_if (p b))

members_all : (xs : List ℕ) (b : ℕ) → ((k : ℕ) → member k xs ≡ true → k < b) → AllByRecursion (λ x. x < b) xs
members_all [] b h = tt
members_all (x ∷ xs) b h = (h x (or_left (eqb x x) (member x xs) (eq-eqb x x refl)), members_all xs b (λ k e. h k (or_right (eqb k x) (member k xs) e)))

-- the different numbers of a list, counted one by one
pub list_count : (xs : List ℕ) (b : ℕ) → ((k : ℕ) → member k xs ≡ true → k < b) → different xs ≡ total (λ k. sign (one_if (member k xs))) b
list_count xs b h = different_is xs b (members_all xs b h) ∙ count_total (λ s. member s xs) b

pub each_opened : {S : Type 0} (P : PathOf S → Type 0) (ps : List (Option (PathOf S))) → ((q : ℕ) → q < length ps → (p : PathOf S) → get_or ps q None ≡ Some p → P p) → AllByRecursion P (opened ps)
each_opened P [] h = tt
each_opened P (None ∷ ps) h = each_opened P ps (λ q l. h (suc q) (omega arith))
each_opened P (Some p ∷ ps) h = (h 0 (omega arith) p refl, each_opened P ps (λ q l. h (suc q) (omega arith)))

module _ {S : Type 0} (s : ℕ) where
  pub in_path : (ps : List (PathOf S)) (i : ℕ) → i < length ps → member s (map (λ x. x.serial) (get_or ps i [])) ≡ true → member s (serials ps) ≡ true
  in_path [] i l h = absurd (omega arith)
  in_path (p ∷ ps) zero l h = member_append s (map (λ x. x.serial) p) (serials ps) ∙ or_left _ _ h
  in_path (p ∷ ps) (suc i) l h = member_append s (map (λ x. x.serial) p) (serials ps) ∙ or_right _ _ (in_path ps i (omega arith) h)

  pub in_place : (ps : List (Option (PathOf S))) (q : ℕ) (p : PathOf S) → get_or ps q None ≡ Some p → member s (map (λ x. x.serial) p) ≡ true → member s (serials (opened ps)) ≡ true
  in_place [] q p e h = absurd (none-some _ e)
  in_place (None ∷ ps) zero p e h = absurd (none-some _ e)
  in_place (None ∷ ps) (suc q) p e h = in_place ps q p e h
  in_place (Some r ∷ ps) zero p e h = let z : r ≡ p = cc in member_append s (map (λ x. x.serial) r) (serials (opened ps)) ∙ or_left _ _ (subst (λ (y : PathOf S). member s (map (λ x. x.serial) y) ≡ true) (sym z) h)
  in_place (Some r ∷ ps) (suc q) p e h = member_append s (map (λ x. x.serial) r) (serials (opened ps)) ∙ or_right _ _ (in_place ps q p e h)

  pub left_of : (ps hs : List (PathOf S)) → member s (serials ps) ≡ true → member s (serials (ps ++ hs)) ≡ true
  left_of [] hs h = absurd (false≢true h)
  left_of (p ∷ ps) hs h =
      let a : List ℕ = map (λ y. y.serial) p in
      elim (or_cases (member s a) (member s (serials ps)) (sym (member_append s a (serials ps)) ∙ h))
      [ inl k ↦ member_append s a (serials (ps ++ hs)) ∙ or_left _ _ k | inr k ↦ member_append s a (serials (ps ++ hs)) ∙ or_right _ _ (left_of ps hs k) ]

  pub right_of : (ps hs : List (PathOf S)) → member s (serials hs) ≡ true → member s (serials (ps ++ hs)) ≡ true
  right_of [] hs h = h
  right_of (p ∷ ps) hs h = member_append s (map (λ y. y.serial) p) (serials (ps ++ hs)) ∙ or_right _ _ (right_of ps hs h)

module _ {S : Type 0} (ls : List Link) (ss : List S) (head : Option ℕ) (free : ℕ) (w serial : ℕ → ℕ) (issued : ℕ) (t : Tree ls head free w serial issued) where
  -- a path whose newest node is named
  unfoldable pub Tracked : PathOf S → Type 0
  Tracked p = (r : ℕ) × (0 < w r) × Track ls ss serial (Some r) p

  LiveAt : ℕ → Type 0
  LiveAt k = (n : ℕ) × (n < length ls) × (0 < (link_at ls n).count) × (serial n ≡ k)

  track_live_at : (o : Option ℕ) (p : PathOf S) → ((r : ℕ) → o ≡ Some r → 0 < (link_at ls r).count) → Track ls ss serial o p → (k : ℕ) → member k (map (λ x. x.serial) p) ≡ true → LiveAt k
  unfolding LiveAt
  track_live_at o [] live r k h = absurd (false≢true h)
  track_live_at o (x ∷ p) live (n, e, l, s, d, r) k h =
      elim (eqb_tells k x.serial) [
        | inl q ↦ (n, l, live n e, s ∙ sym q.1)
        | inr q ↦ track_live_at (link_at ls n).parent p (λ j b. (parent_used ls head free w serial issued t n j l (live n e) b).1) r k (ap (λ b. b || member k (map (λ x. x.serial) p)) (sym q.0) ∙ h)
      ]

  pub serial_live : (ps : List (PathOf S)) → AllByRecursion Tracked ps → (k : ℕ) → member k (serials ps) ≡ true → (n : ℕ) × (n < length ls) × (0 < (link_at ls n).count) × (serial n ≡ k)
  unfolding Tracked LiveAt
  serial_live [] h k m = absurd (false≢true m)
  serial_live (p ∷ ps) h k m =
      elim (or_cases (member k (map (λ x. x.serial) p)) (member k (serials ps)) (sym (member_append k (map (λ x. x.serial) p) (serials ps)) ∙ m)) [
        | inl a ↦ track_live_at (Some h.0.0) p (λ r e. let z : h.0.0 ≡ r = cc in subst (λ x. 0 < (link_at ls x).count) z (named_used ls head free w serial issued h.0.0 t h.0.1).1) h.0.2 k a
        | inr a ↦ serial_live ps h.1 k a
      ]

  pub track_chain : (o : Option ℕ) (P : PathOf S) (p : List ℕ) → Track ls ss serial o P → Chain ls o p → (n : ℕ) → 0 < occurrences n p → member (serial n) (map (λ x. x.serial) P) ≡ true
  track_chain o P [] r c n h = absurd (omega arith)
  track_chain o [] (f ∷ fs) r (e, l, c) n h = absurd (let z : ◌≡◌ {A = ℕ} 0 1 = cc in omega arith)
  track_chain o (x ∷ P) (f ∷ fs) (m, e, l, s, d, r) (e2, l2, c) n h =
      let z : m ≡ f = cc in
      ⊎_elim
      (λ q. or_left _ _ (eq-eqb (serial n) x.serial (ap serial (q ∙ sym z) ∙ s)))
      (λ ne. or_right _ _ (track_chain (link_at ls m).parent P fs r (subst (λ j. Chain ls (link_at ls j).parent fs) (sym z) c) n (omega (arith, is_node_other n f ne))))
      (cases_eq n f)

module _ {S : Type 0} (node : ℕ → ℕ) (v : View S) (f : Filter S) (h : Represents node v f) where
  place_open : (a : Option ℕ) (b : Option (PathOf S)) (p : PathOf S) → b ≡ Some p → Alike (links v.nodes) (states v.nodes) h.serial a b → (r : ℕ) × (a ≡ Some r) × Track (links v.nodes) (states v.nodes) h.serial (Some r) p
  place_open None None p e x = absurd (none-some _ e)
  place_open None (Some q) p e x = absurd x
  place_open (Some n) None p e x = absurd x
  place_open (Some n) (Some q) p e x = let z : q ≡ p = cc in (n, refl, subst (λ y. Track (links v.nodes) (states v.nodes) h.serial (Some n) y) z x)

  open_place : (a : Option ℕ) (b : Option (PathOf S)) (r : ℕ) → a ≡ Some r → Alike (links v.nodes) (states v.nodes) h.serial a b → (p : PathOf S) × (b ≡ Some p) × Track (links v.nodes) (states v.nodes) h.serial (Some r) p
  open_place None b r e x = absurd (let z : ◌≡◌ {A = ℕ} 0 1 = cc in omega arith)
  open_place (Some n) None r e x = absurd x
  open_place (Some n) (Some q) r e x = let z : n ≡ r = cc in (q, refl, subst (λ y. Track (links v.nodes) (states v.nodes) h.serial (Some y) q) z x)

  particle_w : (i : ℕ) → i < length v.tips → 0 < named v.tips v.holds (get_or v.tips i 0)
  particle_w i l = particle_named v.tips v.holds i l

  pub all_tracked : AllByRecursion (Tracked (links v.nodes) (states v.nodes) v.head v.free (named v.tips v.holds) h.serial f.issued h.tree) (all_paths f)
  unfolding Tracked
  all_tracked = All-append _ f.paths (opened f.places)
      (All-from_get_or _ f.paths [] (λ i l. let l2 : i < length v.tips = omega (arith, h.number) in (get_or v.tips i 0, particle_w i l2, h.paths_are i l2)))
      (each_opened _ f.places (λ q l p e.
      let l2 : q < length v.holds = omega (arith, h.sixteen, h.sound.sixteen_places) in
      let r = place_open (get_or v.holds q None) (get_or f.places q None) p e (h.places_are q (omega (arith, h.sixteen))) in
      (r.0, place_named v.tips v.holds q r.0 l2 r.1, r.2)))

  pub serial_in : (k : ℕ) → k < length (links v.nodes) → 0 < (link_at (links v.nodes) k).count → member (h.serial k) (serials (all_paths f)) ≡ true
  serial_in k l c =
      let x = (trees_are_exact (links v.nodes) v.head v.free (named v.tips v.holds) h.serial f.issued h.tree k l).0 c in
      let r : ℕ = x.0 in
      let go : (P : PathOf S) → Track (links v.nodes) (states v.nodes) h.serial (Some r) P → member (h.serial k) (map (λ y. y.serial) P) ≡ true
      = λ P tr. track_chain (links v.nodes) (states v.nodes) v.head v.free (named v.tips v.holds) h.serial f.issued h.tree (Some r) P x.1 tr x.3 k x.4 in
      ⊎_elim
      (λ a.
      let m = sum-pick (is_node r) 0 v.tips a in
      let e : r ≡ get_or v.tips m.0 0 = is_node_eq r _ m.2 in
      left_of (h.serial k) f.paths (opened f.places) (in_path (h.serial k) f.paths m.0 (omega (arith, m.1, h.number)) (go (get_or f.paths m.0 []) (subst (λ y. Track (links v.nodes) (states v.nodes) h.serial (Some y) (get_or f.paths m.0 [])) (sym e) (h.paths_are m.0 m.1)))))
      (λ a.
      let m = sum-pick (λ o. is_named o r) None v.holds (omega (arith, x.2)) in
      let e = is_named_eq (get_or v.holds m.0 None) r m.2 in
      let p = open_place (get_or v.holds m.0 None) (get_or f.places m.0 None) r e (h.places_are m.0 (omega (arith, m.1, h.sixteen))) in
      right_of (h.serial k) f.paths (opened f.places) (in_place (h.serial k) f.places m.0 p.0 p.1 (go p.0 p.2)))
      (cases_lt 0 (sum_by (is_node r) v.tips))

  -- the number of nodes in use is that of different serials
  pub in_use_represented : in_use f + v.free ≡ length v.nodes
  unfolding in_use one_if
  in_use_represented =
      let ls : List Link = links v.nodes in
      let all : List ℕ = serials (all_paths f) in
      let back = serial_live (links v.nodes) (states v.nodes) v.head v.free (named v.tips v.holds) h.serial f.issued h.tree (all_paths f) all_tracked in
      let low : (k : ℕ) → member k (serials (all_paths f)) ≡ true → k < f.issued
      = λ k m. let b = back k m in subst (λ x. x < f.issued) b.3 (h.tree.past b.0 b.1 b.2) in
      let c = list_count (serials (all_paths f)) f.issued low in
      let seen : (k : ℕ) → 0 < one_if (member k (serials (all_paths f))) → member k (serials (all_paths f)) ≡ true
      = λ k q. ⊎_elim (λ e. e) (λ e. absurd (let z : one_if (member k (serials (all_paths f))) ≡ 0 = ap one_if e in omega (arith, z))) (cases_Bool (member k (serials (all_paths f)))) in
      let a = serials_count_nodes (links v.nodes) v.head v.free (named v.tips v.holds) h.serial f.issued (λ k. one_if (member k (serials (all_paths f)))) h.tree (λ k q. back k (seen k q)) (λ n l q. let e : one_if (member (h.serial n) (serials (all_paths f))) ≡ 1 = ap one_if (serial_in n l q) in omega (arith, e)) in
      omega (arith, a, c, length-links v.nodes)
