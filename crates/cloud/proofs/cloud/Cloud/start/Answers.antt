use Rattle.std.proofs.Common.{sym, refl, ap, ◌∙◌, arith, rules}
use Rattle.resampling.specs.Calls.{in_range}
use Rattle.sources.specs.Supplies.{after}
use Rattle.cloud.specs.Views.{view}
use Rattle.cloud.proofs.Going.{promised}
use Rattle.cloud.proofs.Starting.{start_map, start_wrong_phase, start_out_of_range, start_no_nodes, start_dry, start_granted, range_fits, issued_as}
use Rattle.cloud.proofs.Stepping.{some_on, same_cloud}
use Rattle.cloud.proofs.cloud.Cloud.start.Goals as goal

pub returns-then-ne : goal.returns-then-ne
returns-then-ne g c =
    let p = promised g.S.State.kind (start_wrong_phase (g.M.Model.meaning c.args.model.now) c.args.n (view c.args.self.now) (g.R.Source.supply c.args.source.now) (search rules)) in
    record { same = (same_cloud _ _, refl); rest = refl; count = refl; steps = p.0; runs = p.1 }

pub returns-then-not-contains : goal.returns-then-not-contains
returns-then-not-contains g c =
    let p = promised g.S.State.kind (start_out_of_range (g.M.Model.meaning c.args.model.now) c.args.n (view c.args.self.now) (g.R.Source.supply c.args.source.now) (search rules) (ap in_range (sym c.from-many.ensures) ∙ search rules)) in
    record { same = (same_cloud _ _, refl); rest = refl; count = refl; steps = p.0; runs = p.1 }

pub returns-then-self-many : goal.returns-then-self-many
returns-then-self-many g c =
    let fits = range_fits c.args.n (ap in_range (sym c.from-many.ensures) ∙ search rules) in
    let p = promised g.S.State.kind (start_no_nodes (g.M.Model.meaning c.args.model.now) c.args.n (view c.args.self.now) (g.R.Source.supply c.args.source.now) (search rules) fits.0 fits.1 (omega arith)) in
    record { same = (same_cloud _ _, refl); rest = refl; count = refl; steps = p.0; runs = p.1 }

pub returns-then-not-can_draw : goal.returns-then-not-can_draw
returns-then-not-can_draw g c =
    let fits = range_fits c.args.n (ap in_range (sym c.from-many.ensures) ∙ search rules) in
    let p = promised g.S.State.kind (start_dry (g.M.Model.meaning c.args.model.now) c.args.n (view c.args.self.now) (g.R.Source.supply c.args.source.now) (search rules) fits.0 fits.1 (omega arith) (search rules)) in
    record { same = (same_cloud _ _, refl); rest = refl; count = refl; steps = p.0; runs = p.1 }

pub issue_births-self-requires-clause-map : goal.issue_births-self-requires-clause-map
issue_births-self-requires-clause-map g c = start_map (view c.args.self.now) c.args.self.now.represented

pub invariant_of-self : goal.invariant_of-self
invariant_of-self g c =
    let fits = range_fits c.args.n (ap in_range (sym c.from-many.ensures) ∙ search rules) in
    let born = c.issue_births-self.new.self in
    let go = start_granted (g.M.Model.meaning c.args.model.now) c.args.n (view c.args.self.now) (g.R.Source.supply c.args.source.now) (search rules) fits.0 fits.1 (omega arith) (search rules) born.nodes.now born.head born.free c.issue_births-self.result.items (g.R.Source.supply c.issue_births-self.new.source)
    (c.issue_births-self.ensures.number ∙ c.from-many.ensures) (omega (arith, c.issue_births-self.ensures.free)) (c.issue_births-self.ensures.rest ∙ ap (λ k. after k (g.R.Source.supply c.args.source.now)) c.from-many.ensures) c.issue_births-self.ensures.born in
    record { represented = some_on (g.met.R.Source.lawful c.args.source.now) go c.args.self.now.represented }

pub returns : goal.returns
returns g c =
    let fits = range_fits c.args.n (ap in_range (sym c.from-many.ensures) ∙ search rules) in
    let born = c.issue_births-self.new.self in
    let go = start_granted (g.M.Model.meaning c.args.model.now) c.args.n (view c.args.self.now) (g.R.Source.supply c.args.source.now) (search rules) fits.0 fits.1 (omega arith) (search rules) born.nodes.now born.head born.free c.issue_births-self.result.items (g.R.Source.supply c.issue_births-self.new.source)
    (c.issue_births-self.ensures.number ∙ c.from-many.ensures) (omega (arith, c.issue_births-self.ensures.free)) (c.issue_births-self.ensures.rest ∙ ap (λ k. after k (g.R.Source.supply c.args.source.now)) c.from-many.ensures) c.issue_births-self.ensures.born in
    let p = promised g.S.State.kind (issued_as c.from-2.ensures go) in
    record { same = tt; rest = refl; count = c.issue_births-self.ensures.same; steps = p.0; runs = p.1 }
