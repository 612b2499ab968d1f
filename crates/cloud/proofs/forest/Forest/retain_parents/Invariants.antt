use Rattle.std.proofs.Common.{◌≡◌, ℕ, ◌+◌, map, length, get_or, take, sum_by}
use Rattle.cloud.specs.Links.{Keeps}
use Rattle.cloud.specs.Trees.{is_node}
use Rattle.cloud.specs.Forests.{IsTree}
use Rattle.cloud.proofs.forest.Forest.retain_parents.Given as goal

abbrev pub invariant-loop-parent : goal.invariant-loop-parent
invariant-loop-parent g l = record {
  number : length l.children.items ≡ l.parent-index;
  kept : Keeps l.initial.self.nodes.now l.self.nodes.now;
  free : l.self.free ≡ l.initial.self.free;
  children : l.children.items ≡ map (λ k. get_or l.old.items k 0) (take l.parent-index l.parents);
  tree : (w serial : ℕ → ℕ) (issued : ℕ) → IsTree l.initial.self w serial issued → IsTree l.self (λ k. w k + sum_by (is_node k) l.children.items) serial issued;
}
