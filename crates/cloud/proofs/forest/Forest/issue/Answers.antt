use Rattle.std.proofs.Common.{◌+◌, subst, arith}
use Rattle.cloud.specs.Links.{links}
use Rattle.cloud.specs.Trees.{Tree, is_named}
use Rattle.cloud.proofs.Trees.{some_tree_head, some_tree_head_inside, some_tree_head_free}
use Rattle.cloud.proofs.Links.{length-links}
use Rattle.cloud.proofs.forest.Forest.issue.Goals as goal

pub issue-next-requires : goal.issue-next-requires
issue-next-requires g c = omega (arith, some_tree_head_inside (links c.args.self.now.nodes.now) c.args.self.now.head c.args.self.now.free c.unwrap-node.result c.requires.tree c.unwrap-node.ensures, length-links c.args.self.now.nodes.now)

pub returns-clause-fresh : goal.returns-clause-fresh
returns-clause-fresh g c = omega (arith, some_tree_head_free (links c.args.self.now.nodes.now) c.args.self.now.head c.args.self.now.free c.unwrap-node.result c.requires.tree c.unwrap-node.ensures)

pub unwrap-node-requires : goal.unwrap-node-requires
unwrap-node-requires g c = some_tree_head (links c.args.self.now.nodes.now) c.args.self.now.head c.args.self.now.free c.requires.tree c.requires.room

pub returns-clause-tree : goal.returns-clause-tree
returns-clause-tree g c w serial issued t = c.issue-next.ensures.tree c.args.self.now.free w serial issued (subst (λ o. Tree (links c.args.self.now.nodes.now) o c.args.self.now.free (λ n. w n + is_named c.args.parent n) serial issued) c.unwrap-node.ensures t)
