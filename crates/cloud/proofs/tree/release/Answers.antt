use Rattle.std.proofs.Common.{Some, arith}
use Rattle.cloud.specs.Links.{links}
use Rattle.cloud.proofs.Links.{keeps_trans, length-links}
use Rattle.cloud.proofs.Releasing.{release_inside, release_used, release_again, release_ends, some_tree_few}
use Rattle.cloud.proofs.Tallies.{used_le}
use Rattle.cloud.proofs.tree.release.Goals as goal

pub overflow_add-freed : goal.overflow_add-freed
overflow_add-freed g c = omega (arith, c.loop-pending.invariant.fewer, c.release_one-step.ensures.fewer, used_le (links c.args.nodes.now), length-links c.args.nodes.now, some_tree_few (links c.args.nodes.now) c.args.head (Some c.args.node) c.requires)

pub release_one-step-requires : goal.release_one-step-requires
release_one-step-requires g c =
    let l = release_inside (links c.args.nodes.now) (links c.loop-pending.nodes) c.args.head c.loop-pending.first c.loop-pending.pending c.args.node c.loop-pending.freed c.loop-pending.invariant.tree c.in-Some.at c.in-Some.is c.requires in
    record {
      within = omega (arith, l, length-links c.loop-pending.nodes);
      used = release_used (links c.args.nodes.now) (links c.loop-pending.nodes) c.args.head c.loop-pending.first c.loop-pending.pending c.args.node c.loop-pending.freed c.loop-pending.invariant.tree c.in-Some.at c.in-Some.is c.requires;
    }

pub loop-pending-preserved : goal.loop-pending-preserved
loop-pending-preserved g c = record {
  kept = keeps_trans c.args.nodes.now c.loop-pending.nodes c.release_one-step.new.nodes c.loop-pending.invariant.kept c.release_one-step.ensures.kept;
  fewer = omega (arith, c.loop-pending.invariant.fewer, c.release_one-step.ensures.fewer);
  tree = release_again (links c.args.nodes.now) (links c.loop-pending.nodes) c.args.head c.loop-pending.first c.loop-pending.pending c.args.node c.loop-pending.freed c.loop-pending.invariant.tree (links c.release_one-step.new.nodes) c.release_one-step.result.head c.release_one-step.result.next c.in-Some.at c.release_one-step.result.freed c.in-Some.is c.release_one-step.ensures.tree;
}

pub returns-clause-tree : goal.returns-clause-tree
returns-clause-tree g c = release_ends (links c.args.nodes.now) (links c.loop-pending.nodes) c.args.head c.loop-pending.first c.loop-pending.pending c.args.node c.loop-pending.freed c.loop-pending.invariant.tree c.in_default.is
