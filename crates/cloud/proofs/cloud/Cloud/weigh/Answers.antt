use Rattle.std.proofs.Common.{refl, rules}
use Rattle.sources.specs.Supplies.{Supply}
use Rattle.cloud.specs.Guards.{guarded}
use Rattle.cloud.specs.Views.{view}
use Rattle.cloud.proofs.Scoring.{tips_inside, weigh_wrong_phase, weigh_unknown, weigh_granted}
use Rattle.cloud.proofs.Going.{goes_on, promised}
use Rattle.cloud.proofs.Guarding.{weigh_guarded}
use Rattle.cloud.proofs.Stepping.{some_same, same_cloud}
use Rattle.cloud.proofs.cloud.Cloud.weigh.Goals as goal

pub returns-then-ne : goal.returns-then-ne
returns-then-ne g c = record {
  same = same_cloud _ _;
  rest = refl;
  steps = λ q. (promised g.S.State.kind (weigh_wrong_phase (g.M.Model.meaning c.args.model.now) c.args.reading q (view c.args.self.now) (search rules))).0;
  runs = λ q. (promised g.S.State.kind (weigh_wrong_phase (g.M.Model.meaning c.args.model.now) c.args.reading q (view c.args.self.now) (search rules))).1;
}

pub returns-then-not-knows_reading : goal.returns-then-not-knows_reading
returns-then-not-knows_reading g c = record {
  same = same_cloud _ _;
  rest = refl;
  steps = λ q. (promised g.S.State.kind (weigh_unknown (g.M.Model.meaning c.args.model.now) c.args.reading q (view c.args.self.now) (search rules) (search rules))).0;
  runs = λ q. (promised g.S.State.kind (weigh_unknown (g.M.Model.meaning c.args.model.now) c.args.reading q (view c.args.self.now) (search rules) (search rules))).1;
}

pub score_tips-total-requires : goal.score_tips-total-requires
score_tips-total-requires g c = tips_inside (view c.args.self.now) c.args.self.now.represented

pub invariant_of-self : goal.invariant_of-self
invariant_of-self g c =
    let go = λ (q : Supply). weigh_granted (guarded g.S.State.kind (g.M.Model.meaning c.args.model.now)) c.args.reading q (view c.args.self.now) (search rules) (search rules) c.score_tips-total.new.weights.items c.score_tips-total.result c.score_tips-total.ensures.number c.score_tips-total.ensures.scores c.score_tips-total.ensures.sum in
    record { represented = some_same go c.args.self.now.represented }

pub returns : goal.returns
returns g c =
    let go = λ (q : Supply). weigh_granted (guarded g.S.State.kind (g.M.Model.meaning c.args.model.now)) c.args.reading q (view c.args.self.now) (search rules) (search rules) c.score_tips-total.new.weights.items c.score_tips-total.result c.score_tips-total.ensures.number c.score_tips-total.ensures.scores c.score_tips-total.ensures.sum in
    let s = λ (q : Supply). weigh_guarded g.S.State.kind (g.M.Model.meaning c.args.model.now) c.args.reading (search rules) (go q) in
    record { same = tt; rest = refl; steps = s; runs = λ q. goes_on g.S.State.kind (s q) }
