use Rattle.std.proofs.Common.{refl}
use Rattle.resampling.specs.Marks.{owner}
use Rattle.resampling.proofs.theorem.examples_hold.Goals as goal

pub returns : goal.returns
unfolding owner
returns c = record { weights_1_80_offset_40 = refl; weights_5_0_5_offset_0 = refl; weights_5_0_5_offset_9 = refl }
