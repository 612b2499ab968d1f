use Rattle.std.proofs.Common.{set, ap, ◌∙◌}
use Rattle.cloud.specs.Links.{links, linked}
use Rattle.cloud.proofs.Trees.{tree_issued}
use Rattle.cloud.proofs.tree.issue.Goals as goal

pub returns-clause-tree : goal.returns-clause-tree
returns-clause-tree g c free w serial issued t =
    tree_issued (links c.args.nodes.now) _ c.args.node free c.args.parent _ w serial issued c.parent_of-next.ensures (c.relink.ensures.links ∙ ap (λ ls. set ls c.args.node (linked 1 c.args.parent)) c.set_state.ensures.kept) t
