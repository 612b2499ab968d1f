use Rattle.std.proofs.Common.{set, refl, ap, ◌∙◌, arith}
use Rattle.std.proofs.lemmas.List.{map-set}
use Rattle.cloud.specs.Links.{states}
use Rattle.cloud.proofs.Links.{links_kept}
use Rattle.cloud.proofs.node.set_state.Goals as goal

pub returns : goal.returns
returns g c = record {
  states = map-set (λ x. x.state) c.args.nodes.now c.from.result _ ∙ ap (λ k. set (states c.args.nodes.now) k c.args.state) c.from.ensures;
  kept = links_kept c.args.nodes.now c.from.result _ _ refl (omega arith);
}
