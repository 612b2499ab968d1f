use Rattle.std.proofs.Common.{◌≡◌, ◌<◌, length, arith}
use Rattle.cloud.specs.Links.{links}
use Rattle.cloud.proofs.Links.{kept_set, length-links}
use Rattle.cloud.proofs.Trees.{tree_lowered, tree_freed}
use Rattle.cloud.proofs.Tallies.{used_kept, used_less, how_many_le}
use Rattle.cloud.proofs.tree.release_one.Goals as goal

pub returns-then-count-gt1 : goal.returns-then-count-gt1
returns-then-count-gt1 g c =
    let h : c.args.node < length (links c.args.nodes.now) = omega (arith, length-links c.args.nodes.now, c.requires.within) in
    record {
      kept = record { same_states = c.relink.ensures.kept; same_parents = kept_set (links c.args.nodes.now) _ c.args.node _ _ h c.relink.ensures.links c.requires.used (λ _. c.parent_of-parent.ensures) };
      fewer = used_kept (links c.args.nodes.now) _ c.args.node _ _ h c.requires.used (omega arith) c.relink.ensures.links;
      ends = omega arith;
      tree = λ free w serial issued t. tree_lowered (links c.args.nodes.now) _ c.args.head free w serial issued c.args.node _ _ h (omega arith) c.count_of-count.ensures c.parent_of-parent.ensures c.relink.ensures.links t;
    }

pub returns : goal.returns
returns g c =
    let h : c.args.node < length (links c.args.nodes.now) = omega (arith, length-links c.args.nodes.now, c.requires.within) in
    let c1 : c.count_of-count.result ≡ 1 = omega arith in
    record {
      kept = record { same_states = c.relink-2.ensures.kept; same_parents = kept_set (links c.args.nodes.now) _ c.args.node _ _ h c.relink-2.ensures.links c.requires.used (λ l. absurd (omega arith)) };
      fewer = used_less (links c.args.nodes.now) _ c.args.node _ h c.requires.used c.relink-2.ensures.links;
      ends = how_many_le c.parent_of-parent.result;
      tree = λ free w serial issued t. tree_freed (links c.args.nodes.now) _ c.args.head free w serial issued c.args.node _ _ h c1 c.count_of-count.ensures c.parent_of-parent.ensures c.relink-2.ensures.links t;
    }
