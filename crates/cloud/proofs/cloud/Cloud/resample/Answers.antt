use Rattle.std.proofs.Common.{◌≡◌, take, Ok, Err, Result, sym, refl, ap, ◌∙◌, subst, arith, rules}
use Rattle.std.specs.Result.{OnErr}
use Rattle.resampling.specs.Calls.{total_of}
use Rattle.models.specs.Meanings.{Meaning}
use Rattle.filter.specs.Calls.{resample}
use Rattle.filter.proofs.Grants.{weighed_not_empty}
use Rattle.cloud.specs.Promises.{Steps, GoesOn}
use Rattle.cloud.specs.Views.{view, told}
use Rattle.cloud.proofs.Going.{promised}
use Rattle.cloud.proofs.Resettling.{Written, written, resample_few, resample_no_total, resample_wrong_phase, resample_dry, resample_granted}
use Rattle.cloud.proofs.Stepping.{some_living, each_weighed, few_particles, same_cloud}
use Rattle.cloud.proofs.cloud.Cloud.resample.Goals as goal

pub returns-then-ne : goal.returns-then-ne
returns-then-ne g c = record {
  same = (same_cloud _ _, refl);
  rest = refl;
  count = refl;
  steps = λ k m. (promised k (resample_wrong_phase m (view c.args.self.now) (g.R.Source.supply c.args.source.now) (search rules))).0;
  runs = λ k m. (promised k (resample_wrong_phase m (view c.args.self.now) (g.R.Source.supply c.args.source.now) (search rules))).1;
}

pub returns-then-not-can_draw : goal.returns-then-not-can_draw
returns-then-not-can_draw g c = record {
  same = (same_cloud _ _, refl);
  rest = refl;
  count = refl;
  steps = λ k m. (promised k (resample_dry m (view c.args.self.now) (g.R.Source.supply c.args.source.now) (search rules) (search rules))).0;
  runs = λ k m. (promised k (resample_dry m (view c.args.self.now) (g.R.Source.supply c.args.source.now) (search rules) (search rules))).1;
}

refused_same : {X Y : Type 0} (r : Result X Y) (P : Type 0) → P → OnErr r P
refused_same (Ok x) P p = tt
refused_same (Err e) P p = p

pub returns-in_err-total_weight : goal.returns-in_err-total_weight
returns-in_err-total_weight g c =
    let v = view c.args.self.now in
    let q = g.R.Source.supply c.args.source.now in
    let is_err : c.from_residual.result ≡ Err c.in_err-total_weight.field-0.0 = search rules in
    let none : total_of c.args.self.now.weights.items ≡ Err c.in_err-total_weight.field-0.0 = ap total_of (sym c.deref.ensures.0) ∙ sym c.total_weight.ensures.value ∙ c.in_err-total_weight.was in
    let go = λ (m : Meaning g.row.S.Denot). resample_no_total m v q (search rules) (search rules) c.in_err-total_weight.field-0.0 none in
    record {
      same = refused_same c.from_residual.result _ (same_cloud _ _, refl);
      rest = refl;
      count = refl;
      steps = λ k m. subst (λ r. Steps k m resample (told r) v q v q) (sym is_err) (promised k (go m)).0;
      runs = λ k m. subst (λ r. GoesOn k m resample (told r) v q v q) (sym is_err) (promised k (go m)).1;
    }

pub resettle-freed-requires : goal.resettle-freed-requires
resettle-freed-requires g c =
    let got : Written c.args.self.now.weights.items ((g.R.Source.supply c.args.source.now).to_come 0) (take c.unwrap-n.result c.write_parents.new.row)
    = subst (λ ws. Written ws ((g.R.Source.supply c.args.source.now).to_come 0) (take c.unwrap-n.result c.write_parents.new.row)) c.deref-2.ensures.0 (subst (λ r. Written c.deref-2.result.now r (take c.unwrap-n.result c.write_parents.new.row)) c.next_number-number.ensures.value
    (written c.deref-2.result.now _ c.write_parents.new.row c.next_number-number.result c.unwrap-n.result 256 c.write_parents.result c.next_number-number.type_inv c.write_parents.ensures.reply c.unwrap-n.ensures c.write_parents.ensures.row)) in
    let each = each_weighed (view c.args.self.now) c.args.self.now.represented (search rules) in
    let few = few_particles (view c.args.self.now) c.args.self.now.represented (λ e. weighed_not_empty (sym (search rules) ∙ e)) in
    record {
      fits = omega (arith, got.count, each, few);
      below = λ k l. omega (arith, got.below k l, each);
      tree = resample_few (view c.args.self.now) c.args.self.now.represented;
    }

pub invariant_of-self : goal.invariant_of-self
invariant_of-self g c =
    let got : Written c.args.self.now.weights.items ((g.R.Source.supply c.args.source.now).to_come 0) (take c.unwrap-n.result c.write_parents.new.row)
    = subst (λ ws. Written ws ((g.R.Source.supply c.args.source.now).to_come 0) (take c.unwrap-n.result c.write_parents.new.row)) c.deref-2.ensures.0 (subst (λ r. Written c.deref-2.result.now r (take c.unwrap-n.result c.write_parents.new.row)) c.next_number-number.ensures.value
    (written c.deref-2.result.now _ c.write_parents.new.row c.next_number-number.result c.unwrap-n.result 256 c.write_parents.result c.next_number-number.type_inv c.write_parents.ensures.reply c.unwrap-n.ensures c.write_parents.ensures.row)) in
    let left = c.resettle-freed.new.self in
    let go = λ (m : Meaning g.row.S.Denot). resample_granted m (view c.args.self.now) (g.R.Source.supply c.args.source.now) (search rules) (search rules) (take c.unwrap-n.result c.write_parents.new.row) got left.nodes.now left.head left.free c.resettle-freed.new.tips.items (g.R.Source.supply c.next_number-number.new.source) c.resettle-freed.result c.resettle-freed.ensures.freed c.next_number-number.ensures.rest c.resettle-freed.ensures.kept c.resettle-freed.ensures.children c.resettle-freed.ensures.tree in
    record { represented = some_living (g.met.R.Source.lawful c.args.source.now) (λ e. weighed_not_empty (sym (search rules) ∙ e)) go c.args.self.now.represented }

pub returns : goal.returns
returns g c =
    let got : Written c.args.self.now.weights.items ((g.R.Source.supply c.args.source.now).to_come 0) (take c.unwrap-n.result c.write_parents.new.row)
    = subst (λ ws. Written ws ((g.R.Source.supply c.args.source.now).to_come 0) (take c.unwrap-n.result c.write_parents.new.row)) c.deref-2.ensures.0 (subst (λ r. Written c.deref-2.result.now r (take c.unwrap-n.result c.write_parents.new.row)) c.next_number-number.ensures.value
    (written c.deref-2.result.now _ c.write_parents.new.row c.next_number-number.result c.unwrap-n.result 256 c.write_parents.result c.next_number-number.type_inv c.write_parents.ensures.reply c.unwrap-n.ensures c.write_parents.ensures.row)) in
    let left = c.resettle-freed.new.self in
    let go = λ (m : Meaning g.row.S.Denot). resample_granted m (view c.args.self.now) (g.R.Source.supply c.args.source.now) (search rules) (search rules) (take c.unwrap-n.result c.write_parents.new.row) got left.nodes.now left.head left.free c.resettle-freed.new.tips.items (g.R.Source.supply c.next_number-number.new.source) c.resettle-freed.result c.resettle-freed.ensures.freed c.next_number-number.ensures.rest c.resettle-freed.ensures.kept c.resettle-freed.ensures.children c.resettle-freed.ensures.tree in
    record { same = tt; rest = refl; count = c.next_number-number.ensures.same; steps = λ k m. (promised k (go m)).0; runs = λ k m. (promised k (go m)).1 }
