-- Walking up while counts fall to 0.
use Rattle.std.proofs.Common.{◌≡◌, ℕ, ◌+◌, ◌<◌, ◌≤◌, List, length, Some, None, Option, subst, arith}
use mathlib.Core.Logic.{∥∥₁_elim}
use native.Mathlib.Bridge.{le_prop}
use Rattle.cloud.specs.Links.{Link, link_at}
use Rattle.cloud.specs.Trees.{is_node, is_named, Tree, SomeTreeFrom}
use Rattle.cloud.proofs.Tallies.{is_node_same}
use Rattle.cloud.proofs.Trees.{tree_same, named_used}

-- so many were freed, and the release goes on at the node that is pending, if there is one
module _ (ls ms : List Link) (head first pending : Option ℕ) (node freed : ℕ) (inv : (free : ℕ) (w serial : ℕ → ℕ) (issued : ℕ) → Tree ls head free (λ n. w n + is_node n node) serial issued → Tree ms first (free + freed) (λ n. w n + is_named pending n) serial issued) where
  release_here : (j free : ℕ) (w serial : ℕ → ℕ) (issued : ℕ) → pending ≡ Some j → Tree ls head free (λ n. w n + is_node n node) serial issued → Tree ms first (free + freed) (λ n. w n + is_node n j) serial issued
  release_here j free w serial issued e t = subst (λ o. Tree ms first (free + freed) (λ n. w n + is_named o n) serial issued) e (inv free w serial issued t)

  pub release_inside : (j : ℕ) → pending ≡ Some j → SomeTreeFrom ls head (Some node) → j < length ms
  release_inside j e h = ∥∥₁_elim h le_prop (λ (free, w, serial, issued, t). (named_used ms first (free + freed) (λ n. w n + is_node n j) serial issued j (release_here j free w serial issued e t) (omega (arith, is_node_same j))).0)

  pub release_used : (j : ℕ) → pending ≡ Some j → SomeTreeFrom ls head (Some node) → 0 < (link_at ms j).count
  release_used j e h = ∥∥₁_elim h le_prop (λ (free, w, serial, issued, t). (named_used ms first (free + freed) (λ n. w n + is_node n j) serial issued j (release_here j free w serial issued e t) (omega (arith, is_node_same j))).1)

  pub release_again : (ns : List Link) (head' next : Option ℕ) (j more : ℕ) → pending ≡ Some j → ((free : ℕ) (w serial : ℕ → ℕ) (issued : ℕ) → Tree ms first free (λ n. w n + is_node n j) serial issued → Tree ns head' (free + more) (λ n. w n + is_named next n) serial issued) → (free : ℕ) (w serial : ℕ → ℕ) (issued : ℕ) → Tree ls head free (λ n. w n + is_node n node) serial issued → Tree ns head' (free + (freed + more)) (λ n. w n + is_named next n) serial issued
  release_again ns head' next j more e step free w serial issued t =
      let q : (free + freed) + more ≡ free + (freed + more) = omega arith in
      subst (λ v. Tree ns head' v (λ n. w n + is_named next n) serial issued) q (step (free + freed) w serial issued (release_here j free w serial issued e t))

  pub release_ends : pending ≡ None → (free : ℕ) (w serial : ℕ → ℕ) (issued : ℕ) → Tree ls head free (λ n. w n + is_node n node) serial issued → Tree ms first (free + freed) w serial issued
  release_ends e free w serial issued t =
      tree_same ms first (free + freed) (λ n. w n + 0) w serial issued (λ n. omega arith) (subst (λ o. Tree ms first (free + freed) (λ n. w n + is_named o n) serial issued) e (inv free w serial issued t))

pub some_tree_few : (ls : List Link) (head o : Option ℕ) → SomeTreeFrom ls head o → length ls ≤ 65536
some_tree_few ls head o h = ∥∥₁_elim h le_prop (λ (free, w, serial, issued, t). t.few)
