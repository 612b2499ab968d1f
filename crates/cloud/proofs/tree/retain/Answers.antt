use Rattle.std.proofs.Common.{◌+◌, ◌<◌, length, set, ap, ◌∙◌, arith}
use Rattle.cloud.specs.Links.{links, linked}
use Rattle.cloud.proofs.Links.{kept_set, length-links, same_link}
use Rattle.cloud.proofs.Trees.{tree_retained}
use Rattle.cloud.proofs.tree.retain.Goals as goal

pub returns : goal.returns
returns g c =
    let h : c.args.node < length (links c.args.nodes.now) = omega (arith, length-links c.args.nodes.now, c.requires.within) in
    record {
      kept = record { same_states = c.relink.ensures.kept; same_parents = kept_set (links c.args.nodes.now) _ c.args.node _ _ h c.relink.ensures.links c.requires.used (λ _. c.parent_of-parent.ensures) };
      links = ◌∙◌ {b = set (links c.args.nodes.now) c.args.node (linked (c.count_of-count.result + 1) c.parent_of-parent.result)} c.relink.ensures.links (ap (set (links c.args.nodes.now) c.args.node) (same_link (ap (λ k. k + 1) c.count_of-count.ensures) c.parent_of-parent.ensures));
      tree = λ head free w serial issued t. tree_retained (links c.args.nodes.now) _ head free w serial issued c.args.node _ _ h c.requires.used c.count_of-count.ensures c.parent_of-parent.ensures c.relink.ensures.links t;
    }
