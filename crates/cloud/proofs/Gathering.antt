-- The nodes of the parents named once more, one after another.
use Rattle.std.proofs.Common.{◌≡◌, ℕ, ◌+◌, ◌^◌, ◌<◌, ◌≤◌, List, [], ◌∷◌, ◌++◌, map, length, get_or, take, sum_by, Option, sym, ap, ◌∙◌, subst, arith}
use mathlib.Core.Logic.{∥∥₁_elim, ∥∥₁_map}
use native.Mathlib.Bridge.{le_prop}
use Rattle.std.proofs.lemmas.List.Sums.{get_or-le-sum_by, sum_by_push}
use Rattle.std.proofs.lemmas.List.{take_more, map-append}
use Rattle.cloud.specs.Links.{Link, link_at, no_link}
use Rattle.cloud.specs.Trees.{is_node, is_child, Tree, SomeTreeAll}
use Rattle.cloud.specs.Tracks.{SomeTreeFew}
use Rattle.cloud.proofs.Tallies.{is_node_same}
use Rattle.cloud.proofs.Trees.{named_used, tree_same}
use Rattle.cloud.proofs.Naming.{few_by, is_node_le, is_child_le}

-- the nodes of the parents, named one by one
module _ (ls ms : List Link) (h h' : Option ℕ) (f f' : ℕ) (es row : List ℕ) (inv : (w serial : ℕ → ℕ) (issued : ℕ) → Tree ls h f w serial issued → Tree ms h' f' (λ k. w k + sum_by (is_node k) row) serial issued) (s : SomeTreeFew ls h f es) where
  module _ (node p : ℕ) (lp : p < length es) (e : node ≡ get_or es p 0) where
    taken_from : 0 < sum_by (is_node node) es
    taken_from = let o : is_node node (get_or es p 0) ≡ 1 = subst (λ x. is_node node x ≡ 1) e (is_node_same node) in omega (arith, get_or-le-sum_by (is_node node) es p 0 lp, o)

    pub gather_inside : node < length ms
    gather_inside = ∥∥₁_elim s le_prop (λ (w, serial, issued, t, b). (named_used ms h' f' _ serial issued node (inv (λ k. w k + sum_by (is_node k) es) serial issued t) (omega (arith, taken_from))).0)

    pub gather_used : 0 < (link_at ms node).count
    gather_used = ∥∥₁_elim s le_prop (λ (w, serial, issued, t, b). (named_used ms h' f' _ serial issued node (inv (λ k. w k + sum_by (is_node k) es) serial issued t) (omega (arith, taken_from))).1)

    pub gather_room : length es ≤ 256 → length row ≤ 256 → (link_at ms node).count + 1 < 2 ^ 32
    gather_room le lr = ∥∥₁_elim s le_prop (λ (w, serial, issued, t, b).
        let t2 = inv (λ k. w k + sum_by (is_node k) es) serial issued t in
        let c = t2.counts node (named_used ms h' f' _ serial issued node t2 (omega (arith, taken_from))).0 in
        omega (arith, c, b node, few_by (is_node node) 0 (is_node_le node) es, few_by (is_node node) 0 (is_node_le node) row, few_by (is_child node) no_link (is_child_le node) ms, t2.few))

  pub gather_held : SomeTreeAll ms h' f' es
  gather_held = ∥∥₁_map s (λ (w, serial, issued, t, b). ((λ k. w k + sum_by (is_node k) row), serial, issued, tree_same ms h' f' (λ k. (w k + sum_by (is_node k) es) + sum_by (is_node k) row) (λ k. (w k + sum_by (is_node k) row) + sum_by (is_node k) es) serial issued (λ k. omega arith) (inv (λ k. w k + sum_by (is_node k) es) serial issued t)))

pub gather_more : (ls ms ns : List Link) (h h' h'' : Option ℕ) (f f' f'' : ℕ) (row row' : List ℕ) (node : ℕ) → row' ≡ row ++ node ∷ [] → ((w serial : ℕ → ℕ) (issued : ℕ) → Tree ls h f w serial issued → Tree ms h' f' (λ k. w k + sum_by (is_node k) row) serial issued) → ((w serial : ℕ → ℕ) (issued : ℕ) → Tree ms h' f' w serial issued → Tree ns h'' f'' (λ k. w k + is_node k node) serial issued) → (w serial : ℕ → ℕ) (issued : ℕ) → Tree ls h f w serial issued → Tree ns h'' f'' (λ k. w k + sum_by (is_node k) row') serial issued
gather_more ls ms ns h h' h'' f f' f'' row row' node e inv law w serial issued t =
    tree_same ns h'' f'' (λ k. (w k + sum_by (is_node k) row) + is_node k node) (λ k. w k + sum_by (is_node k) row') serial issued
    (λ k. omega (arith, ap (sum_by (is_node k)) e, sum_by_push (is_node k) row node))
    (law (λ k. w k + sum_by (is_node k) row) serial issued (inv w serial issued t))

pub gather_none : (ls : List Link) (h : Option ℕ) (f : ℕ) (row : List ℕ) → row ≡ [] → (w serial : ℕ → ℕ) (issued : ℕ) → Tree ls h f w serial issued → Tree ls h f (λ k. w k + sum_by (is_node k) row) serial issued
gather_none ls h f row e w serial issued t = tree_same ls h f w (λ k. w k + sum_by (is_node k) row) serial issued (λ k. let z : sum_by (is_node k) row ≡ 0 = ap (sum_by (is_node k)) e in omega arith) t

-- one child more
pub children_more : (children es ps : List ℕ) (i : ℕ) → i < length ps → children ≡ map (λ k. get_or es k 0) (take i ps) → children ++ get_or es (get_or ps i 0) 0 ∷ [] ≡ map (λ k. get_or es k 0) (take (i + 1) ps)
children_more children es ps i l e =
    ap (λ us. us ++ get_or es (get_or ps i 0) 0 ∷ []) e ∙ sym (map-append (λ k. get_or es k 0) (take i ps) (get_or ps i 0 ∷ [])) ∙ sym (ap (map (λ k. get_or es k 0)) (take_more ps i 0 l))

-- the new nodes named, then the old ones released
pub swapped : (ls ms ns : List Link) (h h' h'' : Option ℕ) (f f' f'' : ℕ) (es fs : List ℕ) → ((w serial : ℕ → ℕ) (issued : ℕ) → Tree ls h f w serial issued → Tree ms h' f' (λ k. w k + sum_by (is_node k) fs) serial issued) → ((w serial : ℕ → ℕ) (issued : ℕ) → Tree ms h' f' (λ k. w k + sum_by (is_node k) es) serial issued → Tree ns h'' f'' w serial issued) → (w serial : ℕ → ℕ) (issued : ℕ) → Tree ls h f (λ k. w k + sum_by (is_node k) es) serial issued → Tree ns h'' f'' (λ k. w k + sum_by (is_node k) fs) serial issued
swapped ls ms ns h h' h'' f f' f'' es fs up down w serial issued t =
    down (λ k. w k + sum_by (is_node k) fs) serial issued
    (tree_same ms h' f' (λ k. (w k + sum_by (is_node k) es) + sum_by (is_node k) fs) (λ k. (w k + sum_by (is_node k) fs) + sum_by (is_node k) es) serial issued (λ k. omega arith) (up (λ k. w k + sum_by (is_node k) es) serial issued t))
