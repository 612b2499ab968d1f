-- Paths made longer, one after another.
use Rattle.std.proofs.Common.{◌≡◌, ℕ, ◌+◌, ◌-◌, ◌<◌, ◌≤◌, ◌≢◌, List, ◌∷◌, length, get_or, set, Some, sum_by, Option, sym, refl, ap, ◌∙◌, subst, ⊎_elim, arith}
use mathlib.Core.Logic.{∥∥₁_elim, ∥∥₁_map}
use native.Mathlib.Bridge.{le_prop}
use Rattle.std.proofs.lemmas.List.{length-set, get_or-set_same, get_or-set_other}
use Rattle.std.proofs.lemmas.List.Sums.{sum_by-set, get_or-le-sum_by}
use Rattle.std.proofs.lemmas.Bool.{cases_eq}
use Rattle.filter.specs.Filters.{Pair, PathOf}
use Rattle.cloud.specs.Links.{Link, linked, link_at}
use Rattle.cloud.specs.Trees.{is_node, Tree, SomeTree, with_serial}
use Rattle.cloud.specs.Tracks.{Track, IsNamed, Inverse, Moved, SomeMapAll}
use Rattle.cloud.proofs.Tallies.{is_node_same, is_node_other}
use Rattle.cloud.proofs.Trees.{named_used}
use Rattle.cloud.proofs.Growths.{path_on, path_longer, grown_more, grown_none}

-- what names a node, without the path at place i
pub less : (ℕ → ℕ) → List ℕ → ℕ → ℕ → ℕ
less w fs i k = (w k + sum_by (is_node k) fs) - is_node k (get_or fs i 0)

module _ (w : ℕ → ℕ) (fs : List ℕ) (i : ℕ) (h : i < length fs) where
  pub less_add : (k : ℕ) → less w fs i k + is_node k (get_or fs i 0) ≡ w k + sum_by (is_node k) fs
  unfolding less
  less_add k = omega (arith, get_or-le-sum_by (is_node k) fs i 0 h)

  pub less_set : (k node : ℕ) → w k + sum_by (is_node k) (set fs i node) ≡ less w fs i k + is_node k node
  unfolding less
  less_set k node = omega (arith, get_or-le-sum_by (is_node k) fs i 0 h, sum_by-set (is_node k) fs i node 0 h)

  pub less_rest : (k : ℕ) → w k ≤ less w fs i k
  unfolding less
  less_rest k = omega (arith, get_or-le-sum_by (is_node k) fs i 0 h)

  pub less_other : (j : ℕ) → j < length fs → j ≢ i → 0 < less w fs i (get_or fs j 0)
  unfolding less
  less_other j l ne =
      let r : ℕ = get_or fs j 0 in
      let z : is_node r (r + 1) ≡ 0 = is_node_other r (r + 1) (omega arith) in
      let g : get_or (set fs i (r + 1)) j 0 ≡ r = get_or-set_other fs i j (r + 1) 0 ne in
      let o : is_node r (get_or (set fs i (r + 1)) j 0) ≡ 1 = subst (λ x. is_node r x ≡ 1) (sym g) (is_node_same r) in
      let l' : j < length (set fs i (r + 1)) = omega (arith, length-set fs i (r + 1)) in
      omega (arith, get_or-le-sum_by (is_node r) (set fs i (r + 1)) j 0 l', sum_by-set (is_node r) fs i (r + 1) 0 h, get_or-le-sum_by (is_node r) fs i 0 h, z, o)

-- one path more made longer
module _ {S : Type 0} (ls ms : List Link) (ss ts : List S) (free : ℕ) (es row : List ℕ) (news : ℕ → S → S) (i nd : ℕ) (old state : S) (w serial node : ℕ → ℕ) (issued : ℕ) (li : i < length row) (lt : length ts ≡ length ms) (read : (d : S) → old ≡ get_or ts (get_or row i 0) d) (new : state ≡ news i old) (g : Moved ls ms ss ts (Some nd) free es row news i w serial node issued) where
  others : ℕ → ℕ
  others = less w row i

  apart : (k : ℕ) → w k + sum_by (is_node k) row ≡ others k + is_node k (get_or row i 0)
  unfolding others
  apart k = sym (less_add w row i li k)

  rest : (k : ℕ) → w k ≤ others k
  unfolding others
  rest = less_rest w row i li

  now : (k : ℕ) → w k + sum_by (is_node k) (set row i nd) ≡ others k + is_node k nd
  unfolding others
  now k = less_set w row i li k nd

  named_other : (j : ℕ) → j < length row → j ≢ i → IsNamed others (Some (get_or row j 0))
  unfolding others
  named_other j l ne r e =
      let z : get_or row j 0 ≡ r = cc in
      subst (λ x. 0 < less w row i x) z (less_other w row i li j l ne)

  on : (o : Option ℕ) (p : PathOf S) → IsNamed others o → Track ms ts g.grown.serial' o p → Track (set ms nd (linked 1 (Some (get_or row i 0)))) (set ts nd state) (with_serial g.grown.serial' nd (issued + i)) o p
  on = path_on ls ms ss ts free i nd (Some (get_or row i 0)) state (λ k. w k + sum_by (is_node k) row) others w serial node issued lt apart rest g.grown

  -- the state read is that of the path's newest pair
  new_state : (x : Pair S) (p : PathOf S) → Track ms ts g.grown.serial' (Some (get_or row i 0)) (x ∷ p) → state ≡ news i x.state
  new_state x p (k, e, l, s, d, r) =
      let z : get_or row i 0 ≡ k = cc in
      new ∙ ap (news i) (read old ∙ ap (λ y. get_or ts y old) z ∙ d old)

  pub moved_more : Moved ls (set ms nd (linked 1 (Some (get_or row i 0)))) ss (set ts nd state) (link_at ms nd).parent (free - 1) es (set row i nd) news (i + 1) w serial node issued
  unfolding grown_more
  moved_more = record {
    grown = grown_more ls ms ss ts free i nd (Some (get_or row i 0)) state (λ k. w k + sum_by (is_node k) row) others w serial node issued lt apart rest g.grown (λ k. w k + sum_by (is_node k) (set row i nd)) (i + 1) now refl;
    longer = λ j x p l r. ⊎_elim
        (λ e.
        let r' : Track ms ts g.grown.serial' (Some (get_or row i 0)) (x ∷ p) = subst (λ y. Track ms ts g.grown.serial' (Some (get_or row y 0)) (x ∷ p)) e (g.ahead j (x ∷ p) (omega arith) (omega arith) r) in
        let r2 = path_longer ls ms ss ts free i nd (Some (get_or row i 0)) state (λ k. w k + sum_by (is_node k) row) others w serial node issued lt apart rest g.grown (x ∷ p) r' in
        let n2 : nd ≡ get_or (set row i nd) j 0 = subst (λ y. nd ≡ get_or (set row i nd) y 0) (sym e) (sym (get_or-set_same row i nd 0 (omega arith))) in
        subst (λ y. Track (set ms nd (linked 1 (Some (get_or row i 0)))) (set ts nd state) (with_serial g.grown.serial' nd (issued + i)) (Some (get_or (set row i nd) j 0)) (record { state = news y x.state; serial = issued + y } ∷ x ∷ p)) (sym e)
        (subst (λ y. Track (set ms nd (linked 1 (Some (get_or row i 0)))) (set ts nd state) (with_serial g.grown.serial' nd (issued + i)) (Some y) (record { state = news i x.state; serial = issued + i } ∷ x ∷ p)) n2
        (subst (λ y. Track (set ms nd (linked 1 (Some (get_or row i 0)))) (set ts nd state) (with_serial g.grown.serial' nd (issued + i)) (Some nd) (record { state = y; serial = issued + i } ∷ x ∷ p)) (new_state x p r') r2)))
        (λ ne.
        let r' = g.longer j x p (omega arith) r in
        subst (λ y. Track (set ms nd (linked 1 (Some (get_or row i 0)))) (set ts nd state) (with_serial g.grown.serial' nd (issued + i)) (Some y) (record { state = news j x.state; serial = issued + j } ∷ x ∷ p)) (sym (get_or-set_other row i j nd 0 ne))
        (on (Some (get_or row j 0)) (record { state = news j x.state; serial = issued + j } ∷ x ∷ p) (named_other j (omega (arith, l)) ne) r'))
        (cases_eq j i);
    ahead = λ j p l l2 r.
        let ne : j ≢ i = omega arith in
        let l3 : j < length row = omega (arith, length-set row i nd) in
        subst (λ y. Track (set ms nd (linked 1 (Some (get_or row i 0)))) (set ts nd state) (with_serial g.grown.serial' nd (issued + i)) (Some y) p) (sym (get_or-set_other row i j nd 0 ne))
        (on (Some (get_or row j 0)) p (named_other j l3 ne) (g.ahead j p (omega arith) l3 r));
  }

pub moved_none : {S : Type 0} (ls : List Link) (ss : List S) (head : Option ℕ) (free : ℕ) (row : List ℕ) (news : ℕ → S → S) (w serial node : ℕ → ℕ) (issued : ℕ) → Tree ls head free (λ k. w k + sum_by (is_node k) row) serial issued → Inverse ls serial node → Moved ls ls ss ss head free row row news 0 w serial node issued
unfolding grown_none
moved_none ls ss head free row news w serial node issued t inv = record {
  grown = grown_none ls ss head free (λ k. w k + sum_by (is_node k) row) w serial node issued t inv;
  longer = λ j x p l r. absurd (omega arith);
  ahead = λ j p _ _ r. r;
}

pub moved_step : {S : Type 0} (ls ms ms' : List Link) (ss ts ts' : List S) (head head' : Option ℕ) (free free' : ℕ) (es row : List ℕ) (news : ℕ → S → S) (i nd : ℕ) (old state : S) (w serial node : ℕ → ℕ) (issued : ℕ) → i < length row → length ts ≡ length ms → ((d : S) → old ≡ get_or ts (get_or row i 0) d) → state ≡ news i old → head ≡ Some nd → head' ≡ (link_at ms nd).parent → ms' ≡ set ms nd (linked 1 (Some (get_or row i 0))) → ts' ≡ set ts nd state → free' + 1 ≡ free → Moved ls ms ss ts head free es row news i w serial node issued → Moved ls ms' ss ts' head' free' es (set row i nd) news (i + 1) w serial node issued
moved_step ls ms ms' ss ts ts' head head' free free' es row news i nd old state w serial node issued li lt read new eh eh' em et ef g =
    let f : free - 1 ≡ free' = omega arith in
    let r = moved_more ls ms ss ts free es row news i nd old state w serial node issued li lt read new (subst (λ o. Moved ls ms ss ts o free es row news i w serial node issued) eh g) in
    subst (λ a. Moved ls a ss ts' head' free' es (set row i nd) news (i + 1) w serial node issued) (sym em)
    (subst (λ a. Moved ls (set ms nd (linked 1 (Some (get_or row i 0)))) ss a head' free' es (set row i nd) news (i + 1) w serial node issued) (sym et)
    (subst (λ a. Moved ls (set ms nd (linked 1 (Some (get_or row i 0)))) ss (set ts nd state) a free' es (set row i nd) news (i + 1) w serial node issued) (sym eh')
    (subst (λ a. Moved ls (set ms nd (linked 1 (Some (get_or row i 0)))) ss (set ts nd state) (link_at ms nd).parent a es (set row i nd) news (i + 1) w serial node issued) f r)))

-- what the next turn may ask
module _ {S : Type 0} (ls ms : List Link) (ss ts : List S) (head head' : Option ℕ) (free free' : ℕ) (es row : List ℕ) (news : ℕ → S → S) (i : ℕ) (inv : (w serial node : ℕ → ℕ) (issued : ℕ) → Tree ls head free (λ k. w k + sum_by (is_node k) es) serial issued → Inverse ls serial node → Moved ls ms ss ts head' free' es row news i w serial node issued) (r : SomeMapAll ls head free es) where
  pub moved_some_tree : SomeTree ms head' free'
  moved_some_tree = ∥∥₁_map r (λ (w, serial, node, issued, t, v). let g = inv w serial node issued t v in ((λ k. w k + sum_by (is_node k) row), g.grown.serial', issued + i, g.grown.tree))

  pub moved_inside : i < length row → get_or row i 0 < length ms
  moved_inside li = ∥∥₁_elim r le_prop (λ (w, serial, node, issued, t, v).
      let g = inv w serial node issued t v in
      (named_used ms head' free' (λ k. w k + sum_by (is_node k) row) g.grown.serial' (issued + i) (get_or row i 0) g.grown.tree (omega (arith, get_or-le-sum_by (is_node (get_or row i 0)) row i 0 li, is_node_same (get_or row i 0)))).0)
