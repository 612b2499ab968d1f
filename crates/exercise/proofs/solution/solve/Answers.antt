use Rattle.exercise.proofs.Working.{parents_systematic}
use Rattle.exercise.proofs.solution.solve.Goals as goal

pub returns-clause-systematic : goal.returns-clause-systematic
returns-clause-systematic c = parents_systematic c.args.weights.now c.args.drawn c.in_ok-total.total c.ranges.drawn.fits c.in_ok-total.ensures.value _ _ c.offset_of-offset.ensures.value c.in_ok-parents.ensures
