use Rattle.std.proofs.Common.{◌≡◌, true, get_or, ap, ◌∙◌, rules}
use Rattle.std.proofs.lemmas.List.Sums.{AllPass-from_list_all}
use Rattle.draws.specs.Rows.{all_states}
use Rattle.draws.proofs.Stepping.{moves_by_place}
use Rattle.draws.proofs.States.{moves_are_states}
use Rattle.draws.proofs.moves.draw_moves.Goals as goal

pub returns-clause-row : goal.returns-clause-row
returns-clause-row g c =
    moves_by_place (g.M.Model.meaning c.args.model.now) (g.R.Source.supply c.args.source.now) c.args.command c.args.row.now c.step_all.new.row (search rules) (λ k d h.
    let made = c.step_all.ensures.stepped k d h in
    let state : g.M.State.State.kind.is (get_or c.args.row.now k d) ≡ true = AllPass-from_list_all g.M.State.State.kind.is c.args.row.now (search rules) k d h in
    search rules)

pub returns-clause-states : goal.returns-clause-states
returns-clause-states g c =
    ap (all_states g.M.State.State.kind) (returns-clause-row g c)
    ∙ moves_are_states g.M.State.State.kind (g.M.Model.meaning c.args.model.now) (g.met.M.Model.lawful c.args.model.now) (g.R.Source.supply c.args.source.now) (g.met.R.Source.lawful c.args.source.now) c.args.command (search rules) 0 c.args.row.now (search rules)
