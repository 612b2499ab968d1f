use Rattle.std.proofs.Common.{◌+◌, ◌<◌, ◌≤◌, length, arith}
use Rattle.cloud.specs.Links.{links}
use Rattle.cloud.proofs.ReleasingAll.{release_all_next, release_all_more, release_all_done, release_all_few}
use Rattle.cloud.proofs.Links.{keeps_trans}
use Rattle.cloud.proofs.forest.Forest.release_all.Goals as goal

pub release-freed-requires : goal.release-freed-requires
release-freed-requires g c =
    release_all_next (links c.args.self.now.nodes.now) (links c.loop-node.self.nodes.now) c.args.self.now.head c.loop-node.self.head c.args.self.now.free c.loop-node.self.free c.args.named.now c.loop-node.node-index c.loop-node.invariant.tree (omega arith) c.requires

pub overflow_add-freed : goal.overflow_add-freed
overflow_add-freed g c =
    let l : c.loop-node.node-index < length c.args.named.now = omega arith in
    let b : c.release-freed.new.self.free ≤ 65536
    = release_all_few (links c.args.self.now.nodes.now) (links c.release-freed.new.self.nodes.now) c.args.self.now.head c.release-freed.new.self.head c.args.self.now.free c.release-freed.new.self.free c.args.named.now (c.loop-node.node-index + 1)
    (release_all_more (links c.args.self.now.nodes.now) (links c.loop-node.self.nodes.now) c.args.self.now.head c.loop-node.self.head c.args.self.now.free c.loop-node.self.free c.args.named.now c.loop-node.node-index c.loop-node.invariant.tree (links c.release-freed.new.self.nodes.now) c.release-freed.new.self.head c.release-freed.new.self.free l c.release-freed.ensures.tree) c.requires in
    omega (arith, b, c.loop-node.invariant.freed, c.release-freed.ensures.freed)

pub loop-node-preserved : goal.loop-node-preserved
loop-node-preserved g c =
    let l : c.loop-node.node-index < length c.args.named.now = omega arith in
    record {
      kept = keeps_trans c.args.self.now.nodes.now c.loop-node.self.nodes.now c.release-freed.new.self.nodes.now c.loop-node.invariant.kept c.release-freed.ensures.kept;
      freed = omega (arith, c.loop-node.invariant.freed, c.release-freed.ensures.freed);
      tree = release_all_more (links c.args.self.now.nodes.now) (links c.loop-node.self.nodes.now) c.args.self.now.head c.loop-node.self.head c.args.self.now.free c.loop-node.self.free c.args.named.now c.loop-node.node-index c.loop-node.invariant.tree (links c.release-freed.new.self.nodes.now) c.release-freed.new.self.head c.release-freed.new.self.free l c.release-freed.ensures.tree;
    }

pub returns-clause-tree : goal.returns-clause-tree
returns-clause-tree g c = release_all_done (links c.args.self.now.nodes.now) (links c.loop-node.self.nodes.now) c.args.self.now.head c.loop-node.self.head c.args.self.now.free c.loop-node.self.free c.args.named.now c.loop-node.node-index c.loop-node.invariant.tree (omega arith)
