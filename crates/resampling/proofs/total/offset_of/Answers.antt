use Rattle.resampling.proofs.Owners.{offset_below}
use Rattle.std.proofs.Common.{rules}
use Rattle.resampling.proofs.total.offset_of.Goals as goal

pub returns : goal.returns
returns c = let below = offset_below c.args.drawn c.args.total in search (rules, below)
