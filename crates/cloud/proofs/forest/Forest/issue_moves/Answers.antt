use Rattle.std.proofs.Common.{◌≡◌, length, sym, refl, ap, ◌∙◌, subst, arith}
use Rattle.std.proofs.lemmas.List.{length-map}
use Rattle.sources.proofs.Draws.{after_none}
use Rattle.cloud.specs.Links.{links, states}
use Rattle.cloud.specs.Guards.{guarded_move}
use Rattle.cloud.specs.Forests.{Longer}
use Rattle.cloud.proofs.Drawing.{can_now, number_now, rest_now}
use Rattle.cloud.proofs.Links.{length-links}
use Rattle.cloud.proofs.Moves.{moved_none, moved_step, moved_some_tree, moved_inside}
use Rattle.cloud.proofs.forest.Forest.issue_moves.Goals as goal

pub loop-tip-init : goal.loop-tip-init
loop-tip-init g c = record {
  rest = sym (after_none _);
  same = refl;
  free = omega arith;
  moved = moved_none (links c.args.self.now.nodes.now) (states c.args.self.now.nodes.now) c.args.self.now.head c.args.self.now.free c.args.tips.now _;
}

pub issue-requires-clause-tree : goal.issue-requires-clause-tree
issue-requires-clause-tree g c = moved_some_tree (links c.args.self.now.nodes.now) (links c.loop-tip.self.nodes.now) (states c.args.self.now.nodes.now) (states c.loop-tip.self.nodes.now) c.args.self.now.head c.loop-tip.self.head c.args.self.now.free c.loop-tip.self.free c.args.tips.now c.loop-tip.tips _ c.loop-tip.tip-index c.loop-tip.invariant.moved c.requires.map

pub state_of-old-requires : goal.state_of-old-requires
state_of-old-requires g c =
    let x = moved_inside (links c.args.self.now.nodes.now) (links c.loop-tip.self.nodes.now) (states c.args.self.now.nodes.now) (states c.loop-tip.self.nodes.now) c.args.self.now.head c.loop-tip.self.head c.args.self.now.free c.loop-tip.self.free c.args.tips.now c.loop-tip.tips _ c.loop-tip.tip-index c.loop-tip.invariant.moved c.requires.map (omega arith) in
    omega (arith, x, length-links c.loop-tip.self.nodes.now)

pub next_number-requires : goal.next_number-requires
next_number-requires g c = can_now (g.R.Source.supply c.args.source.now) _ (g.met.R.Source.lawful c.args.source.now) c.loop-tip.tip-index (length c.args.tips.now) (omega arith) c.requires.supplied c.loop-tip.invariant.rest

pub loop-tip-preserved : goal.loop-tip-preserved
loop-tip-preserved g c =
    let s = g.R.Source.supply c.args.source.now in
    record {
      rest = rest_now s _ _ c.loop-tip.tip-index c.loop-tip.invariant.rest c.next_number.ensures.rest;
      same = c.next_number.ensures.same ∙ c.loop-tip.invariant.same;
      free = omega (arith, c.loop-tip.invariant.free, c.issue.ensures.free);
      moved = λ w serial node issued t inv.
          let lt : length (states c.loop-tip.self.nodes.now) ≡ length (links c.loop-tip.self.nodes.now) = length-map c.loop-tip.self.nodes.now _ ∙ sym (length-map c.loop-tip.self.nodes.now _) in
          moved_step (links c.args.self.now.nodes.now) (links c.loop-tip.self.nodes.now) (links c.issue.new.self.nodes.now) (states c.args.self.now.nodes.now) (states c.loop-tip.self.nodes.now) (states c.issue.new.self.nodes.now) c.loop-tip.self.head c.issue.new.self.head c.loop-tip.self.free c.issue.new.self.free c.args.tips.now c.loop-tip.tips _ c.loop-tip.tip-index c.issue.result c.state_of-old.result c.move_of-state.result w serial node issued (omega arith) lt c.state_of-old.ensures
          (c.move_of-state.ensures ∙ ap (guarded_move g.S.State.kind (g.M.Model.meaning c.args.model.now) c.state_of-old.result c.args.command) (c.next_number.ensures.value ∙ number_now s _ c.loop-tip.tip-index c.loop-tip.invariant.rest))
          c.issue.ensures.first c.issue.ensures.next c.issue.ensures.links c.issue.ensures.states c.issue.ensures.free (c.loop-tip.invariant.moved w serial node issued t inv);
    }

pub returns-clause-moved : goal.returns-clause-moved
returns-clause-moved g c =
    let e : c.loop-tip.tip-index ≡ length c.args.tips.now = omega arith in
    subst (Longer c.args.self.now c.loop-tip.self c.args.tips.now c.loop-tip.tips (λ k s. guarded_move g.S.State.kind (g.M.Model.meaning c.args.model.now) s c.args.command ((g.R.Source.supply c.args.source.now).to_come k))) e c.loop-tip.invariant.moved
