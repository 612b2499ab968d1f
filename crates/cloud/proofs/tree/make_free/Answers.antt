use Rattle.std.proofs.Common.{◌≡◌, ◌<◌, length, set, refl, ap, ◌∙◌, subst, arith}
use Rattle.cloud.specs.Links.{links}
use Rattle.cloud.proofs.Freeing.{AllFree, all_free_none, all_free_more, all_free_tree}
use Rattle.cloud.proofs.Links.{length-links, links_set, states_kept}
use Rattle.cloud.proofs.tree.make_free.Goals as goal

pub loop-i-init : goal.loop-i-init
loop-i-init g c = record { kept = refl; free = all_free_none (links c.args.nodes.now) }

pub loop-i-preserved : goal.loop-i-preserved
loop-i-preserved g c =
    let h : c.loop-i.i < length c.loop-i.nodes = omega arith in
    record {
      kept = states_kept c.loop-i.nodes c.loop-i.i c.index-nodes-i.result c.relink.new.self c.relink.ensures.state h ∙ c.loop-i.invariant.kept;
      free = all_free_more (links c.loop-i.nodes) _ c.loop-i.head c.loop-i.i (omega (arith, length-links c.loop-i.nodes)) (links_set c.loop-i.nodes c.loop-i.i c.relink.new.self ∙ ap (set (links c.loop-i.nodes) c.loop-i.i) c.relink.ensures.link) c.loop-i.invariant.free;
    }

pub returns : goal.returns
returns g c =
    let e : c.loop-i.i ≡ length c.args.nodes.now = omega arith in
    record {
      kept = c.loop-i.invariant.kept;
      tree = λ serial. all_free_tree (links c.loop-i.nodes) c.loop-i.head (length c.args.nodes.now) serial (length-links c.loop-i.nodes ∙ c.loop-i.auto.nodes) c.requires (subst (AllFree (links c.loop-i.nodes) c.loop-i.head) e c.loop-i.invariant.free);
    }
