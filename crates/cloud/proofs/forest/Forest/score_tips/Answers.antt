use Rattle.std.proofs.Common.{◌<◌, get_or, sym, ap, ◌∙◌, arith, rules}
use Rattle.std.proofs.lemmas.List.Sums.{sum_by_push}
use Rattle.resampling.specs.Marks.{total}
use Rattle.cloud.specs.Links.{states}
use Rattle.cloud.specs.Guards.{guarded_score}
use Rattle.cloud.proofs.ScoringTips.{scores_more}
use Rattle.cloud.proofs.forest.Forest.score_tips.Goals as goal

pub loop-tip-preserved : goal.loop-tip-preserved
loop-tip-preserved g c =
    let b : c.score_of-weight.result < 65536 = search rules in
    let score = λ (x : g.row.S.Denot). guarded_score g.S.State.kind (g.M.Model.meaning c.args.model.now) x c.args.reading in
    record {
      number = omega (arith, c.push.ensures.len, c.loop-tip.invariant.number);
      scores = scores_more score (states c.args.self.now.nodes.now) c.args.tips.now.items c.loop-tip.weights.items c.push.new.self.items c.loop-tip.tip-index c.score_of-weight.result c.push.ensures.items (sym c.loop-tip.invariant.number)
          (λ d. c.score_of-weight.ensures ∙ ap score (c.state_of-state.ensures d ∙ ap (λ xs. get_or (states c.args.self.now.nodes.now) (get_or xs c.loop-tip.tip-index 0) d) c.deref-tip-items.ensures.0))
          c.loop-tip.invariant.scores;
      sum = omega (arith, c.from-sum.ensures, c.loop-tip.invariant.sum, ap total c.push.ensures.items, sum_by_push (λ x. x) c.loop-tip.weights.items c.score_of-weight.result);
      bound = omega (arith, b, c.loop-tip.invariant.bound, c.from-sum.ensures);
    }
