use Rattle.std.proofs.Common.{◌≡◌, ℕ, ◌+◌, sum_by}
use Rattle.cloud.specs.Links.{links, Keeps}
use Rattle.cloud.specs.Trees.{Tree, is_named, is_used, how_many}
use Rattle.cloud.proofs.tree.release.Given as goal

abbrev pub invariant-loop-pending : goal.invariant-loop-pending
invariant-loop-pending g l = record {
  kept : Keeps l.initial.nodes l.nodes;
  fewer : sum_by is_used (links l.nodes) + l.freed ≡ sum_by is_used (links l.initial.nodes);
  tree : (free : ℕ) (w serial : ℕ → ℕ) (issued : ℕ) → Tree (links l.initial.nodes) l.initial.first free (λ n. w n + is_named l.initial.pending n) serial issued → Tree (links l.nodes) l.first (free + l.freed) (λ n. w n + is_named l.pending n) serial issued;
}

abbrev pub decreases-loop-pending : goal.decreases-loop-pending
decreases-loop-pending g l = sum_by is_used (links l.nodes) + how_many l.pending
