use Rattle.std.proofs.Common.{ℕ, sym, refl, subst, arith, rules}
use Rattle.sources.specs.Supplies.{Supply}
use Rattle.models.specs.Meanings.{Meaning}
use Rattle.filter.specs.Calls.{give_back}
use Rattle.filter.specs.Replies.{done, nothing}
use Rattle.cloud.specs.Promises.{Steps, GoesOn}
use Rattle.cloud.specs.Representations.{SomeFilter}
use Rattle.cloud.specs.Views.{view}
use Rattle.cloud.proofs.Going.{promised}
use Rattle.cloud.proofs.Returning.{returned_view, returned_path, return_other_stamp, return_closed, open_inside, return_named, return_granted}
use Rattle.cloud.proofs.Stepping.{some_free}
use Rattle.cloud.proofs.cloud.Cloud.give_back.Goals as goal

pub returns-then-hold-self : goal.returns-then-hold-self
returns-then-hold-self g c = record {
  same = (refl, refl);
  rest = refl;
  steps = λ k m q. (promised k (return_other_stamp m q (view c.args.self.now) c.args.hold.stamp c.args.hold.place c.if-hold-self.true)).0;
  runs = λ k m q. (promised k (return_other_stamp m q (view c.args.self.now) c.args.hold.stamp c.args.hold.place c.if-hold-self.true)).1;
}

pub returns-in_default : goal.returns-in_default
returns-in_default g c = record {
  same = (refl, refl);
  rest = refl;
  steps = λ k m q. (promised k (return_closed m q (view c.args.self.now) c.args.hold.stamp c.args.hold.place (sym c.in_default.ensures))).0;
  runs = λ k m q. (promised k (return_closed m q (view c.args.self.now) c.args.hold.stamp c.args.hold.place (sym c.in_default.ensures))).1;
}

pub bounds-self-from : goal.bounds-self-from
bounds-self-from g c = omega (arith, open_inside c.args.self.now.holds c.args.hold.place c.in-Some.node (search rules) (sym c.in-Some.ensures))

pub release-freed-requires : goal.release-freed-requires
release-freed-requires g c = return_named (view c.args.self.now) c.args.hold.place (open_inside c.args.self.now.holds c.args.hold.place c.in-Some.node (search rules) (sym c.in-Some.ensures)) c.in-Some.node (sym c.in-Some.ensures) c.args.self.now.represented

pub invariant_of-self : goal.invariant_of-self
invariant_of-self g c =
    let left = c.release-freed.new.self in
    let go = λ (m : Meaning g.row.S.Denot) (q : Supply). return_granted (view c.args.self.now) c.args.hold.place (open_inside c.args.self.now.holds c.args.hold.place c.in-Some.node (search rules) (sym c.in-Some.ensures)) c.in-Some.node (sym c.in-Some.ensures) left.nodes.now left.head left.free c.release-freed.result c.release-freed.ensures.freed c.release-freed.ensures.kept c.release-freed.ensures.tree m q c.args.hold.stamp c.if-hold-self.false in
    record { represented = subst (λ p. SomeFilter (returned_view (view c.args.self.now) p left.nodes.now left.head left.free)) (sym c.from.ensures) (some_free (returned_path (view c.args.self.now) c.args.hold.place c.in-Some.node (open_inside c.args.self.now.holds c.args.hold.place c.in-Some.node (search rules) (sym c.in-Some.ensures)) (sym c.in-Some.ensures)) go c.args.self.now.represented) }

pub returns : goal.returns
returns g c =
    let left = c.release-freed.new.self in
    let go = λ (m : Meaning g.row.S.Denot) (q : Supply). return_granted (view c.args.self.now) c.args.hold.place (open_inside c.args.self.now.holds c.args.hold.place c.in-Some.node (search rules) (sym c.in-Some.ensures)) c.in-Some.node (sym c.in-Some.ensures) left.nodes.now left.head left.free c.release-freed.result c.release-freed.ensures.freed c.release-freed.ensures.kept c.release-freed.ensures.tree m q c.args.hold.stamp c.if-hold-self.false in
    let after = λ (p : ℕ). returned_view (view c.args.self.now) p left.nodes.now left.head left.free in
    let reply = done 0 c.release-freed.result nothing in
    record {
      same = tt;
      rest = refl;
      steps = λ k m q. subst (λ p. Steps k m (give_back c.args.hold.stamp c.args.hold.place) reply (view c.args.self.now) q (after p) q) (sym c.from.ensures) (promised k (go m q)).0;
      runs = λ k m q. subst (λ p. GoesOn k m (give_back c.args.hold.stamp c.args.hold.place) reply (view c.args.self.now) q (after p) q) (sym c.from.ensures) (promised k (go m q)).1;
    }
