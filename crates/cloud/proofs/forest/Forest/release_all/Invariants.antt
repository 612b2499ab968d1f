use Rattle.std.proofs.Common.{◌≡◌, ℕ, ◌+◌, drop, sum_by}
use Rattle.cloud.specs.Links.{Keeps}
use Rattle.cloud.specs.Trees.{is_node}
use Rattle.cloud.specs.Forests.{IsTree}
use Rattle.cloud.proofs.forest.Forest.release_all.Given as goal

abbrev pub invariant-loop-node : goal.invariant-loop-node
invariant-loop-node g l = record {
  kept : Keeps l.initial.self.nodes.now l.self.nodes.now;
  freed : l.self.free ≡ l.initial.self.free + l.freed;
  tree : (w serial : ℕ → ℕ) (issued : ℕ) → IsTree l.initial.self (λ k. w k + sum_by (is_node k) l.named) serial issued → IsTree l.self (λ k. w k + sum_by (is_node k) (drop l.node-index l.named)) serial issued;
}
