-- Worked examples of systematic resampling. Assumes nothing.
use Rattle.std.specs.Prelude.{◌≡◌, [], ◌∷◌}
use Rattle.resampling.specs.Marks.{parents}
use Rattle.resampling.specs.Children.{children_of_each}

pub record Examples : Type 0 where
  pub weights_1_80_offset_40 : children_of_each (parents (1 ∷ 80 ∷ []) 40) ≡ 0 ∷ 2 ∷ []
  pub weights_5_0_5_offset_0 : parents (5 ∷ 0 ∷ 5 ∷ []) 0 ≡ 0 ∷ 0 ∷ 2 ∷ []
  pub weights_5_0_5_offset_9 : parents (5 ∷ 0 ∷ 5 ∷ []) 9 ≡ 0 ∷ 2 ∷ 2 ∷ []
