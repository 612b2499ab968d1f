use Rattle.std.proofs.Common.{◌≡◌, [], ◌++◌, length, refl, ap, ◌∙◌, rules, arith}
use Rattle.std.proofs.Output.{has_written_append}
use Rattle.logs.specs.Reports.{entry_text}
use Rattle.logs.proofs.Running.{lines-le, turn, states}
use Rattle.logs.proofs.run.write_report.Goals as goal

pub loop-number-init : goal.loop-number-init
loop-number-init g c =
    let made = c.into_iter-number-iterator.ensures.into_iter_gives in
    let one : c.into_iter-number-iterator.result.a.start ≡ 1 = ap (λ z. z.a.start) made ∙ ap (λ r. r.start) c.zip-number-items.ensures.first in
    let all : c.into_iter-number-iterator.result.b.0.now ≡ c.args.input.now = ap (λ z. z.b.0.now) made ∙ ap (λ r. r.0.now) c.zip-number-items.ensures.second in
    record {
      written = λ p. ([], search rules, simp (one, all));
      after = simp all;
      few = simp (one, all) (omega (arith, lines-le c.args.input.now));
    }

pub loop-number-preserved : goal.loop-number-preserved
loop-number-preserved g c =
    let steps = c.in-Some.ensures.steps in
    let obeys = g.M.Machine.obeys (length c.args.row.now) in
    let after = rw c.loop-number.auto.row at c.serve-result.ensures.after in
    let reply = rw c.loop-number.auto.row at c.serve-result.ensures.reply in
    record {
      written = λ p.
          let x = c.loop-number.invariant.written p in (
            _,
            has_written_append _ _ _ _ _ _ x.1 (c.in_ok-write_entry.ensures x.1.plain refl),
            turn obeys c.args.program _ _ _ c.in-Some.number _ _ _ _ _ _ _ x.2 steps.1 steps.0.0 steps.0.1 (ap (λ r. x.0 ++ entry_text c.in-Some.number r) reply) after,
          );
      after = states obeys c.args.program _ _ _ _ _ steps.1 after ∙ c.loop-number.invariant.after;
      few = omega (arith, ap length steps.1, c.loop-number.invariant.few);
    }
