use Rattle.std.proofs.Common.{◌+◌, ◌^◌, ◌<◌, length, get_or, sym, refl, ap, ◌∙◌, subst, arith, rules}
use Rattle.sources.specs.Supplies.{Supply}
use Rattle.models.specs.Meanings.{Meaning}
use Rattle.cloud.specs.Links.{link_at}
use Rattle.cloud.specs.Forests.{links_of}
use Rattle.cloud.specs.Views.{view}
use Rattle.cloud.proofs.Going.{promised}
use Rattle.cloud.proofs.Retaining.{hold_inside, hold_used, hold_room, hold_wrong_phase, hold_out_of_range, hold_no_place, hold_granted}
use Rattle.cloud.proofs.Stepping.{some_free, living_path, few_particles, same_cloud}
use Rattle.cloud.proofs.cloud.Cloud.hold.Goals as goal

pub returns-then-eq : goal.returns-then-eq
returns-then-eq g c = record {
  same = same_cloud _ _;
  rest = refl;
  steps = λ k m q. (promised k (hold_wrong_phase m q (view c.args.self.now) c.args.particle (search rules))).0;
  runs = λ k m q. (promised k (hold_wrong_phase m q (view c.args.self.now) c.args.particle (search rules))).1;
}

pub returns-in_default-clause-steps : goal.returns-in_default-clause-steps
returns-in_default-clause-steps g c k m q = (promised k (hold_out_of_range m q (view c.args.self.now) c.args.particle (search rules) (omega (arith, c.in_default.ensures.lookup.3, ap length c.deref.ensures.0)))).0

pub returns-in_default-clause-runs : goal.returns-in_default-clause-runs
returns-in_default-clause-runs g c k m q = (promised k (hold_out_of_range m q (view c.args.self.now) c.args.particle (search rules) (omega (arith, c.in_default.ensures.lookup.3, ap length c.deref.ensures.0)))).1

pub returns-in_default-first_closed-clause-steps : goal.returns-in_default-first_closed-clause-steps
returns-in_default-first_closed-clause-steps g c k m q = (promised k (hold_no_place m q (view c.args.self.now) c.args.particle (search rules) (omega (arith, c.in-Some.ensures.lookup.3.0, ap length c.deref.ensures.0)) c.in_default-first_closed.ensures)).0

pub returns-in_default-first_closed-clause-runs : goal.returns-in_default-first_closed-clause-runs
returns-in_default-first_closed-clause-runs g c k m q = (promised k (hold_no_place m q (view c.args.self.now) c.args.particle (search rules) (omega (arith, c.in-Some.ensures.lookup.3.0, ap length c.deref.ensures.0)) c.in_default-first_closed.ensures)).1

pub returns : goal.returns
returns g c =
    let kept = c.retain.new.self in
    let go = λ (m : Meaning g.row.S.Denot) (q : Supply). hold_granted m q (view c.args.self.now) c.args.particle (search rules) (omega (arith, c.in-Some.ensures.lookup.3.0, ap length c.deref.ensures.0)) c.in-Some.field-0.now (ap (λ us. get_or us c.args.particle 0) (sym c.deref.ensures.0) ∙ ap (λ k. get_or c.deref.result.now k 0) (sym c.from.ensures) ∙ sym (c.in-Some.ensures.lookup.3.1 0)) c.in-Some-first_closed.place c.in-Some-first_closed.ensures.0 c.in-Some-first_closed.ensures.1 kept.nodes.now kept.head kept.free c.retain.ensures.free c.retain.ensures.kept c.retain.ensures.tree c.args.self.now.stamp refl in
    record { same = refl; rest = refl; steps = λ k m q. (promised k (go m q)).0; runs = λ k m q. (promised k (go m q)).1 }

pub invariant_of-self : goal.invariant_of-self
invariant_of-self g c =
    let kept = c.retain.new.self in
    let go = λ (m : Meaning g.row.S.Denot) (q : Supply). hold_granted m q (view c.args.self.now) c.args.particle (search rules) (omega (arith, c.in-Some.ensures.lookup.3.0, ap length c.deref.ensures.0)) c.in-Some.field-0.now (ap (λ us. get_or us c.args.particle 0) (sym c.deref.ensures.0) ∙ ap (λ k. get_or c.deref.result.now k 0) (sym c.from.ensures) ∙ sym (c.in-Some.ensures.lookup.3.1 0)) c.in-Some-first_closed.place c.in-Some-first_closed.ensures.0 c.in-Some-first_closed.ensures.1 kept.nodes.now kept.head kept.free c.retain.ensures.free c.retain.ensures.kept c.retain.ensures.tree c.args.self.now.stamp refl in
    record { represented = some_free (living_path (view c.args.self.now) (search rules)) go c.args.self.now.represented }

pub retain-requires : goal.retain-requires
retain-requires g c =
    let v = view c.args.self.now in
    let inside : c.args.particle < length c.args.self.now.tips.items = omega (arith, c.in-Some.ensures.lookup.3.0, ap length c.deref.ensures.0) in
    let few = few_particles v c.args.self.now.represented (search rules) in
    let is = (ap (λ us. get_or us c.args.particle 0) (sym c.deref.ensures.0) ∙ ap (λ k. get_or c.deref.result.now k 0) (sym c.from.ensures) ∙ sym (c.in-Some.ensures.lookup.3.1 0)) in
    record {
      within = subst (λ k. k < length c.args.self.now.forest.nodes.now) is (hold_inside v c.args.self.now.represented c.args.particle inside few);
      used = subst (λ k. 0 < (link_at (links_of c.args.self.now.forest) k).count) is (hold_used v c.args.self.now.represented c.args.particle inside few);
      room = subst (λ k. (link_at (links_of c.args.self.now.forest) k).count + 1 < 2 ^ 32) is (hold_room v c.args.self.now.represented c.args.particle inside few);
    }
