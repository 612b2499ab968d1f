-- Releasing the nodes of a list.
use Rattle.std.proofs.Common.{◌≡◌, ℕ, ◌+◌, ◌<◌, ◌≤◌, List, length, get_or, drop, sum_by, Option, arith}
use mathlib.Core.Logic.{∥∥₁_elim, ∥∥₁_map}
use native.Mathlib.Bridge.{le_prop}
use Rattle.std.proofs.lemmas.List.Sums.{sum_by-drop_more}
use Rattle.std.proofs.lemmas.List.{at_drop_all}
use Rattle.cloud.specs.Links.{Link}
use Rattle.cloud.specs.Trees.{Tree, is_node, SomeTreeAt, SomeTreeAll}
use Rattle.cloud.proofs.Trees.{tree_same, free_le}

-- the nodes of a list, released one by one
module _ (ls ms : List Link) (h h' : Option ℕ) (f f' : ℕ) (es : List ℕ) (i : ℕ) (inv : (w serial : ℕ → ℕ) (issued : ℕ) → Tree ls h f (λ k. w k + sum_by (is_node k) es) serial issued → Tree ms h' f' (λ k. w k + sum_by (is_node k) (drop i es)) serial issued) where
  next_up : i < length es → (w serial : ℕ → ℕ) (issued : ℕ) → Tree ls h f (λ k. w k + sum_by (is_node k) es) serial issued → Tree ms h' f' (λ k. (w k + sum_by (is_node k) (drop (i + 1) es)) + is_node k (get_or es i 0)) serial issued
  next_up l w serial issued t = tree_same ms h' f' (λ k. w k + sum_by (is_node k) (drop i es)) (λ k. (w k + sum_by (is_node k) (drop (i + 1) es)) + is_node k (get_or es i 0)) serial issued (λ k. omega (arith, sum_by-drop_more (is_node k) es i 0 l)) (inv w serial issued t)

  pub release_all_next : i < length es → SomeTreeAll ls h f es → SomeTreeAt ms h' f' (get_or es i 0)
  release_all_next l s = ∥∥₁_map s (λ (w, serial, issued, t). ((λ k. w k + sum_by (is_node k) (drop (i + 1) es)), serial, issued, next_up l w serial issued t))

  pub release_all_more : (ns : List Link) (h'' : Option ℕ) (f'' : ℕ) → i < length es → ((w serial : ℕ → ℕ) (issued : ℕ) → Tree ms h' f' (λ k. w k + is_node k (get_or es i 0)) serial issued → Tree ns h'' f'' w serial issued) → (w serial : ℕ → ℕ) (issued : ℕ) → Tree ls h f (λ k. w k + sum_by (is_node k) es) serial issued → Tree ns h'' f'' (λ k. w k + sum_by (is_node k) (drop (i + 1) es)) serial issued
  release_all_more ns h'' f'' l law w serial issued t = law (λ k. w k + sum_by (is_node k) (drop (i + 1) es)) serial issued (next_up l w serial issued t)

  pub release_all_done : length es ≤ i → (w serial : ℕ → ℕ) (issued : ℕ) → Tree ls h f (λ k. w k + sum_by (is_node k) es) serial issued → Tree ms h' f' w serial issued
  release_all_done l w serial issued t = tree_same ms h' f' (λ k. w k + sum_by (is_node k) (drop i es)) w serial issued (λ k. let z : sum_by (is_node k) (drop i es) ≡ 0 = at_drop_all (sum_by (is_node k)) es i l in omega arith) (inv w serial issued t)

  pub release_all_few : SomeTreeAll ls h f es → f' ≤ 65536
  release_all_few s = ∥∥₁_elim s le_prop (λ (w, serial, issued, t). free_le ms h' f' (λ k. w k + sum_by (is_node k) (drop i es)) serial issued (inv w serial issued t))

pub release_all_none : (ls : List Link) (h : Option ℕ) (f : ℕ) (es : List ℕ) (w serial : ℕ → ℕ) (issued : ℕ) → Tree ls h f (λ k. w k + sum_by (is_node k) es) serial issued → Tree ls h f (λ k. w k + sum_by (is_node k) (drop 0 es)) serial issued
release_all_none ls h f es w serial issued t = t
