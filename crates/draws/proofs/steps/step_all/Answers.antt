use Rattle.std.proofs.Common.{length, arith, rules}
use Rattle.sources.proofs.Draws.{draw_at}
use Rattle.draws.proofs.steps.step_all.Goals as goal

-- no draw is refused
pub unwrap-requires : goal.unwrap-requires
unwrap-requires g c =
    let s = g.R.Source.supply c.args.source.now in
    let next = draw_at s (g.met.R.Source.lawful c.args.source.now) c.loop-place.place-index (length c.args.row.now) (omega arith) c.requires.supplied _ c.loop-place.invariant.0 in
    search rules
