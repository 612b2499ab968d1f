use Rattle.std.proofs.Common.{set, ap, ◌∙◌, arith}
use Rattle.cloud.specs.Links.{links, linked}
use Rattle.cloud.proofs.Links.{links_set, states_kept}
use Rattle.cloud.proofs.node.relink.Goals as goal

pub returns : goal.returns
returns g c = record {
  kept = states_kept c.args.nodes.now c.from.result c.index-nodes-from.result c.relink.new.self c.relink.ensures.state (omega arith);
  links = links_set c.args.nodes.now c.from.result c.relink.new.self ∙ ap (set (links c.args.nodes.now) c.from.result) c.relink.ensures.link ∙ ap (λ k. set (links c.args.nodes.now) k (linked c.args.count c.args.parent)) c.from.ensures;
}
