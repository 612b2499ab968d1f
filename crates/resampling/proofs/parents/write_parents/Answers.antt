use Rattle.std.proofs.Common.{◌≡◌, ◌<◌, sym, subst, arith, rules}
use Rattle.std.proofs.lemmas.List.{take_at}
use Rattle.resampling.specs.Marks.{total, offset, parents}
use Rattle.resampling.specs.Systematic.{Systematic}
use Rattle.resampling.proofs.Owners.{offset_below}
use Rattle.resampling.proofs.Shares.{systematic}
use Rattle.resampling.proofs.parents.write_parents.Goals as goal

pub returns-clause-systematic : goal.returns-clause-systematic
returns-clause-systematic c =
    let ws = c.args.weights.now in
    let u = offset c.args.drawn (total ws) in
    let whole : c.in_ok-whole.whole ≡ total ws = search rules in
    let inside : u < total ws = offset_below c.args.drawn (total ws) (omega (arith, c.in_ok-whole.ensures.bound)) c.ranges.drawn.fits in
    let row : c.write_by_marks.new.row ≡ parents ws u = cc (c.write_by_marks.ensures, c.offset_of.ensures.value) in
    rw row (subst (Systematic ws u) (sym (take_at _ _ _ (systematic ws u inside).count)) (systematic ws u inside))
