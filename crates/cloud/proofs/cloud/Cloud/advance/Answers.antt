use Rattle.std.proofs.Common.{◌≡◌, ℕ, length, sym, refl, ap, ◌∙◌, subst, arith, rules}
use Rattle.arrayvec.specs.ArrayVec.{with_items}
use Rattle.arrayvec.proofs.ArrayVecLemmas.{items-with_items}
use Rattle.sources.specs.Supplies.{after}
use Rattle.filter.proofs.Grants.{level_not_empty}
use Rattle.cloud.specs.Guards.{guarded, guarded_move}
use Rattle.cloud.specs.Forests.{Longer, HasMapAll}
use Rattle.cloud.specs.Views.{view}
use Rattle.cloud.proofs.Advancing.{advance_map, round_small, advance_wrong_phase, advance_unknown, advance_no_nodes, advance_dry, advance_granted}
use Rattle.cloud.proofs.Going.{goes_on, promised}
use Rattle.cloud.proofs.Guarding.{advance_guarded}
use Rattle.cloud.proofs.Stepping.{some_on, same_cloud}
use Rattle.cloud.proofs.cloud.Cloud.advance.Goals as goal

pub returns-then-ne : goal.returns-then-ne
returns-then-ne g c =
    let p = promised g.S.State.kind (advance_wrong_phase (g.M.Model.meaning c.args.model.now) c.args.command (view c.args.self.now) (g.R.Source.supply c.args.source.now) (search rules)) in
    record { same = (same_cloud _ _, refl); rest = refl; count = refl; steps = p.0; runs = p.1 }

pub returns-then-not-knows_command : goal.returns-then-not-knows_command
returns-then-not-knows_command g c =
    let p = promised g.S.State.kind (advance_unknown (g.M.Model.meaning c.args.model.now) c.args.command (view c.args.self.now) (g.R.Source.supply c.args.source.now) (search rules) (search rules)) in
    record { same = (same_cloud _ _, refl); rest = refl; count = refl; steps = p.0; runs = p.1 }

pub returns-then-self-n : goal.returns-then-self-n
returns-then-self-n g c =
    let p = promised g.S.State.kind (advance_no_nodes (g.M.Model.meaning c.args.model.now) c.args.command (view c.args.self.now) (g.R.Source.supply c.args.source.now) (search rules) (search rules) (omega (arith, c.len-n.ensures.value))) in
    record { same = (same_cloud _ _, refl); rest = refl; count = refl; steps = p.0; runs = p.1 }

pub returns-then-not-can_draw : goal.returns-then-not-can_draw
returns-then-not-can_draw g c =
    let p = promised g.S.State.kind (advance_dry (g.M.Model.meaning c.args.model.now) c.args.command (view c.args.self.now) (g.R.Source.supply c.args.source.now) (search rules) (search rules) (omega (arith, c.len-n.ensures.value)) (search rules)) in
    record { same = (same_cloud _ _, refl); rest = refl; count = refl; steps = p.0; runs = p.1 }

pub issue_moves-requires-clause-map : goal.issue_moves-requires-clause-map
issue_moves-requires-clause-map g c = subst (HasMapAll c.args.self.now.forest) (sym c.deref_mut.ensures.value) (advance_map (view c.args.self.now) c.args.self.now.represented)

pub overflow_add-self : goal.overflow_add-self
overflow_add-self g c = omega (arith, round_small (view c.args.self.now) c.args.self.now.represented (λ e. level_not_empty (sym (search rules) ∙ e)))

pub invariant_of-self-2 : goal.invariant_of-self-2
invariant_of-self-2 g c =
    let tips = c.args.self.now.tips in
    let moved = c.issue_moves.new.self in
    let long : length c.issue_moves.new.tips ≡ length c.args.self.now.tips.items = c.issue_moves.auto.tips ∙ ap length c.deref_mut.ensures.value in
    let news = λ (k : ℕ) (s : g.row.S.Denot). guarded_move g.S.State.kind (g.M.Model.meaning c.args.model.now) s c.args.command ((g.R.Source.supply c.args.source.now).to_come k) in
    let go = advance_granted (guarded g.S.State.kind (g.M.Model.meaning c.args.model.now)) c.args.command (view c.args.self.now) (g.R.Source.supply c.args.source.now) (search rules) (search rules) (omega (arith, c.len-n.ensures.value)) (search rules) moved.nodes.now moved.head moved.free (with_items tips c.issue_moves.new.tips).items (g.R.Source.supply c.issue_moves.new.source)
    (ap length (items-with_items tips c.issue_moves.new.tips long) ∙ long)
    (omega (arith, c.issue_moves.ensures.free, ap length c.deref_mut.ensures.value))
    (c.issue_moves.ensures.rest ∙ ap (λ xs. after (length xs) (g.R.Source.supply c.args.source.now)) c.deref_mut.ensures.value)
    (subst (λ xs. Longer c.args.self.now.forest moved xs (with_items tips c.issue_moves.new.tips).items news (length xs)) c.deref_mut.ensures.value (subst (λ us. Longer c.args.self.now.forest moved c.deref_mut.result.now us news (length c.deref_mut.result.now)) (sym (items-with_items tips c.issue_moves.new.tips long)) c.issue_moves.ensures.moved))
    c.len-n.result c.len-n.ensures.value in
    record { represented = some_on (g.met.R.Source.lawful c.args.source.now) go c.args.self.now.represented }

pub returns : goal.returns
returns g c =
    let tips = c.args.self.now.tips in
    let moved = c.issue_moves.new.self in
    let long : length c.issue_moves.new.tips ≡ length c.args.self.now.tips.items = c.issue_moves.auto.tips ∙ ap length c.deref_mut.ensures.value in
    let news = λ (k : ℕ) (s : g.row.S.Denot). guarded_move g.S.State.kind (g.M.Model.meaning c.args.model.now) s c.args.command ((g.R.Source.supply c.args.source.now).to_come k) in
    let go = advance_granted (guarded g.S.State.kind (g.M.Model.meaning c.args.model.now)) c.args.command (view c.args.self.now) (g.R.Source.supply c.args.source.now) (search rules) (search rules) (omega (arith, c.len-n.ensures.value)) (search rules) moved.nodes.now moved.head moved.free (with_items tips c.issue_moves.new.tips).items (g.R.Source.supply c.issue_moves.new.source)
    (ap length (items-with_items tips c.issue_moves.new.tips long) ∙ long)
    (omega (arith, c.issue_moves.ensures.free, ap length c.deref_mut.ensures.value))
    (c.issue_moves.ensures.rest ∙ ap (λ xs. after (length xs) (g.R.Source.supply c.args.source.now)) c.deref_mut.ensures.value)
    (subst (λ xs. Longer c.args.self.now.forest moved xs (with_items tips c.issue_moves.new.tips).items news (length xs)) c.deref_mut.ensures.value (subst (λ us. Longer c.args.self.now.forest moved c.deref_mut.result.now us news (length c.deref_mut.result.now)) (sym (items-with_items tips c.issue_moves.new.tips long)) c.issue_moves.ensures.moved))
    c.len-n.result c.len-n.ensures.value in
    let s = advance_guarded g.S.State.kind (g.M.Model.meaning c.args.model.now) c.args.command (search rules) go in
    record { same = tt; rest = refl; count = c.issue_moves.ensures.same; steps = s; runs = goes_on g.S.State.kind s }
