use Rattle.std.proofs.Common.{◌≡◌, ◌+◌, length, sym, refl, ap, ◌∙◌, arith}
use Rattle.std.proofs.lemmas.List.{length-map}
use Rattle.sources.proofs.Draws.{after_none}
use Rattle.cloud.specs.Links.{links, states}
use Rattle.cloud.proofs.Drawing.{can_now, number_now, rest_now}
use Rattle.cloud.proofs.Births.{born_none, born_step, born_some_tree}
use Rattle.cloud.proofs.forest.Forest.issue_births.Goals as goal

pub loop-init : goal.loop-init
loop-init g c = record {
  number = ap length c.new-tips.ensures;
  rest = sym (after_none _);
  same = refl;
  free = omega arith;
  born = λ w serial node issued t inv. born_none (links c.args.self.now.nodes.now) (states c.args.self.now.nodes.now) c.args.self.now.head c.args.self.now.free c.new-tips.result.items _ w serial node issued c.new-tips.ensures t inv;
}

pub next_number-requires : goal.next_number-requires
next_number-requires g c = can_now (g.R.Source.supply c.args.source.now) _ (g.met.R.Source.lawful c.args.source.now) c.loop.counter c.args.n (omega arith) c.requires.supplied c.loop.invariant.rest

pub issue-requires-clause-tree : goal.issue-requires-clause-tree
issue-requires-clause-tree g c = born_some_tree (links c.args.self.now.nodes.now) (links c.loop.self.nodes.now) (states c.args.self.now.nodes.now) (states c.loop.self.nodes.now) c.args.self.now.head c.loop.self.head c.args.self.now.free c.loop.self.free c.loop.tips.items _ c.loop.invariant.born c.requires.map

pub loop-preserved : goal.loop-preserved
loop-preserved g c =
    let s = g.R.Source.supply c.args.source.now in
    record {
      born = λ w serial node issued t inv.
          let lt : length (states c.loop.self.nodes.now) ≡ length (links c.loop.self.nodes.now) = length-map c.loop.self.nodes.now _ ∙ sym (length-map c.loop.self.nodes.now _) in
          let count : c.loop.counter ≡ length c.loop.tips.items = sym c.loop.invariant.number in
          born_step (links c.args.self.now.nodes.now) (links c.loop.self.nodes.now) (links c.issue.new.self.nodes.now) (states c.args.self.now.nodes.now) (states c.loop.self.nodes.now) (states c.issue.new.self.nodes.now) c.loop.self.head c.issue.new.self.head c.loop.self.free c.issue.new.self.free c.loop.tips.items c.push.new.self.items _ c.issue.result c.birth-state.result w serial node issued c.push.ensures.items lt
          (c.birth-state.ensures ∙ ap (g.M.Model.meaning c.args.model.now).birth (c.next_number.ensures.value ∙ number_now s _ c.loop.counter c.loop.invariant.rest ∙ ap s.to_come count))
          c.issue.ensures.first c.issue.ensures.next c.issue.ensures.links c.issue.ensures.states c.issue.ensures.free (c.loop.invariant.born w serial node issued t inv);
      number = c.push.ensures.len ∙ ap (λ k. k + 1) c.loop.invariant.number;
      rest = rest_now s _ _ c.loop.counter c.loop.invariant.rest c.next_number.ensures.rest;
      same = c.next_number.ensures.same ∙ c.loop.invariant.same;
      free = omega (arith, c.loop.invariant.free, c.issue.ensures.free);
    }
