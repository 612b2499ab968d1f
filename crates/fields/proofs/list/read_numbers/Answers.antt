use Rattle.std.proofs.Common.{◌≡◌, ℕ, ◌+◌, eqb, List, length, vec_items, Ok, Err, sym, ap, ◌∙◌, arith, rules}
use Rattle.std.proofs.lemmas.List.{at_drop_all, length_push, append-nil}
use borrow.Author.Tests.{tests}
use Rattle.std.proofs.lemmas.Iterator.Consumers.{YieldsList-turn, YieldsList-end}
use Rattle.std.proofs.lemmas.Iterator.Splits.{YieldsList-from_slice_split}
use Rattle.std.proofs.lemmas.Result.{err_from_is_err_and}
use Rattle.fields.specs.Cuts.{fields}
use Rattle.fields.specs.Numbers.{read_field}
use Rattle.fields.specs.Lists.{numbers_of}
use Rattle.fields.proofs.Cutting.{split_is_fields}
use Rattle.fields.proofs.Listing.{after_those, read_one, read_fault}
use Rattle.fields.proofs.list.read_numbers.Goals as goal

pub returns-in_err-number : goal.returns-in_err-number
returns-in_err-number c =
    let t = rw split_is_fields at (YieldsList-turn (YieldsList-from_slice_split _ (λ b. eqb b 44) c.args.line.now (cc) (cc) (cc) (λ x b q k. search (rules, tests))) c.loop-field.yielded _ c.loop-field.yielded_by _ _ c.in-Some.field c.in-Some.is c.next.ensures.steps) in
    let read : read_field (length c.loop-field.yielded + 1) c.args.limit c.in-Some.field.now ≡ Err c.in_err-number.field-0.0 = search rules in
    let e = read_fault (vec_items c.loop-field.numbers) (length c.loop-field.yielded) c.args.limit (fields c.args.line.now) c.in-Some.field.now t.0 t.1 _ read in
    let p = err_from_is_err_and c.from_residual.result c.from_residual.ensures.1 in
    rw (p.1, p.2) (sym c.loop-field.invariant.1 ∙ e)

pub loop-field-preserved : goal.loop-field-preserved
loop-field-preserved c =
    let t = rw split_is_fields at (YieldsList-turn (YieldsList-from_slice_split _ (λ b. eqb b 44) c.args.line.now (cc) (cc) (cc) (λ x b q k. search (rules, tests))) c.loop-field.yielded _ c.loop-field.yielded_by _ _ c.in-Some.field c.in-Some.is c.next.ensures.steps) in
    let read : read_field (length c.loop-field.yielded + 1) c.args.limit c.in-Some.field.now ≡ Ok c.in_ok-number.number = search rules in
    let e = read_one (vec_items c.loop-field.numbers) (length c.loop-field.yielded) c.args.limit (fields c.args.line.now) c.in-Some.field.now t.0 t.1 _ read in
    let n = length_push c.loop-field.yielded c.in-Some.field in
    (search (rules, n), rw (n, c.in_ok-push.ensures.items) (sym e ∙ c.loop-field.invariant.1))

pub returns : goal.returns
returns c =
    let t = rw split_is_fields at (YieldsList-end (YieldsList-from_slice_split _ (λ b. eqb b 44) c.args.line.now (cc) (cc) (cc) (λ x b q k. search (rules, tests))) c.loop-field.yielded _ c.loop-field.yielded_by _ _ c.in-None.is c.next.ensures.steps) in
    sym c.loop-field.invariant.1
    ∙ ap (after_those (vec_items c.loop-field.numbers)) (at_drop_all (numbers_of (length c.loop-field.yielded + 1) c.args.limit) (fields c.args.line.now) (length c.loop-field.yielded) (omega (arith, t.1)))
    ∙ ap (λ (l : List ℕ). Ok l) (append-nil (vec_items c.loop-field.numbers))
