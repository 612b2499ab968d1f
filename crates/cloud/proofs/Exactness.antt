-- The nodes in use are those on a path.
use Rattle.std.proofs.Common.{◌≡◌, ℕ, zero, suc, ◌+◌, ◌<◌, ◌≤◌, List, [], ◌∷◌, length, Some, None, Option, sym, refl, ap, ◌∙◌, subst, ⊎_elim, arith}
use Rattle.std.proofs.lemmas.List.Sums.{get_or-le-sum_by}
use Rattle.std.proofs.lemmas.Bool.{cases_eq, cases_lt}
use Rattle.cloud.specs.Links.{Link, no_link, link_at}
use Rattle.cloud.specs.Trees.{is_node, is_named, occurrences, is_child, Chain, Tree}
use Rattle.cloud.specs.Exactness.{OnPath, TreesAreExact}
use Rattle.cloud.proofs.Tallies.{is_node_same, is_node_other, is_child_used, is_child_free, is_named_eq, sum-pick}
use Rattle.cloud.proofs.Trees.{chain_head, named_used}

module _ (ls : List Link) (head : Option ℕ) (free : ℕ) (w serial : ℕ → ℕ) (issued : ℕ) (t : Tree ls head free w serial issued) where
  -- the parent of a node in use is in use
  pub parent_used : (m q : ℕ) → m < length ls → 0 < (link_at ls m).count → (link_at ls m).parent ≡ Some q → (q < length ls) × (0 < (link_at ls q).count) × (serial q < serial m)
  parent_used m q l h e =
      let u = t.older m q l h e in
      let k : is_child q (link_at ls m) ≡ 1 = is_child_used q (link_at ls m) h ∙ ap (λ o. is_named o q) e ∙ is_node_same q in
      (u.0, omega (arith, k, get_or-le-sum_by (is_child q) ls m no_link l, t.counts q u.0), u.1)

  -- from each node in use the parents lead to an end
  pub path_of : (fuel : ℕ) (o : Option ℕ) → ((q : ℕ) → o ≡ Some q → (q < length ls) × (0 < (link_at ls q).count) × (serial q < fuel)) → (p : List ℕ) × Chain ls o p
  path_of fuel None k = ([], refl)
  path_of zero (Some q) k = absurd (omega (arith, (k q refl).2))
  path_of (suc fuel) (Some q) k =
      let l = k q refl in
      let r = path_of fuel (link_at ls q).parent (λ j e. let u = parent_used q j l.0 l.1 e in (u.0, u.1, omega (arith, u.2, l.2))) in
      (q ∷ r.0, (refl, l.0, r.1))

  -- a path has only nodes in use
  chain_used : (o : Option ℕ) (p : List ℕ) (n : ℕ) → ((r : ℕ) → o ≡ Some r → 0 < (link_at ls r).count) → Chain ls o p → 0 < occurrences n p → 0 < (link_at ls n).count
  chain_used o [] n live c h = absurd (omega arith)
  chain_used o (f ∷ fs) n live (e, l, c) h =
      ⊎_elim
      (λ q. subst (λ j. 0 < (link_at ls j).count) (sym q) (live f e))
      (λ ne. chain_used (link_at ls f).parent fs n (λ r b. (parent_used f r l (live f e) b).1) c (omega (arith, is_node_other n f ne)))
      (cases_eq n f)

  -- a path that has m has the parent of m
  parent_on_path : (o : Option ℕ) (p : List ℕ) (m n : ℕ) → Chain ls o p → 0 < occurrences m p → (link_at ls m).parent ≡ Some n → 0 < occurrences n p
  parent_on_path o [] m n c h b = absurd (omega arith)
  parent_on_path o (f ∷ fs) m n (e, l, c) h b =
      ⊎_elim
      (λ q.
      let hc = chain_head ls n fs (subst (λ x. Chain ls x fs) (ap (λ j. (link_at ls j).parent) (sym q) ∙ b) c) in
      let o2 : occurrences n fs ≡ is_node n n + occurrences n hc.0 = ap (occurrences n) hc.1 in
      omega (arith, o2, is_node_same n))
      (λ ne. omega (arith, parent_on_path (link_at ls f).parent fs m n c (omega (arith, is_node_other m f ne)) b))
      (cases_eq m f)

  on_path : (fuel n : ℕ) → n < length ls → 0 < (link_at ls n).count → issued ≤ serial n + fuel → OnPath ls w n
  on_path zero n l h s = absurd (omega (arith, t.past n l h))
  on_path (suc fuel) n l h s =
      ⊎_elim
      (λ r. let p = path_of (suc (serial n)) (Some n) (λ q e. let z : n ≡ q = cc in subst (λ j. (j < length ls) × (0 < (link_at ls j).count) × (serial j < suc (serial n))) z (l, h, omega arith)) in
      let hc = chain_head ls n p.0 p.1 in
      let o2 : occurrences n p.0 ≡ is_node n n + occurrences n hc.0 = ap (occurrences n) hc.1 in
      (n, p.0, r, p.1, omega (arith, o2, is_node_same n)))
      (λ z.
      let m = sum-pick (is_child n) no_link ls (omega (arith, t.counts n l)) in
      let lm : 0 < (link_at ls m.0).count = ⊎_elim (λ q. q) (λ q. absurd (omega (arith, is_child_free n (link_at ls m.0) (omega arith), m.2))) (cases_lt 0 (link_at ls m.0).count) in
      let b : (link_at ls m.0).parent ≡ Some n = is_named_eq (link_at ls m.0).parent n (omega (arith, is_child_used n (link_at ls m.0) lm, m.2)) in
      let r = on_path fuel m.0 m.1 lm (omega (arith, (t.older m.0 n m.1 lm b).1)) in
      (r.0, r.1, r.2, r.3, parent_on_path (Some r.0) r.1 m.0 n r.3 r.4 b))
      (cases_lt 0 (w n))

pub trees_are_exact : TreesAreExact
trees_are_exact ls head free w serial issued t n l = (
  λ h. on_path ls head free w serial issued t issued n l h (omega arith),
  λ (r, p, pos, c, o). chain_used ls head free w serial issued t (Some r) p n (λ q e. let z : r ≡ q = cc in subst (λ j. 0 < (link_at ls j).count) z (named_used ls head free w serial issued r t pos).1) c o,
)
