use Rattle.std.proofs.Common.{length, ap, ◌∙◌, rules}
use Rattle.draws.specs.Rows.{all_states}
use Rattle.draws.proofs.Stepping.{births_by_place}
use Rattle.draws.proofs.States.{births_are_states}
use Rattle.draws.proofs.births.draw_births.Goals as goal

pub returns-clause-row : goal.returns-clause-row
returns-clause-row g c =
    births_by_place (g.M.Model.meaning c.args.model.now) (g.R.Source.supply c.args.source.now) (length c.args.row.now) c.step_all.new.row (search rules) (λ k d h. let made = c.step_all.ensures.stepped k d h in search rules)

pub returns-clause-states : goal.returns-clause-states
returns-clause-states g c =
    ap (all_states g.M.State.State.kind) (returns-clause-row g c)
    ∙ births_are_states g.M.State.State.kind (g.M.Model.meaning c.args.model.now) (g.met.M.Model.lawful c.args.model.now) (g.R.Source.supply c.args.source.now) (g.met.R.Source.lawful c.args.source.now) (length c.args.row.now)
