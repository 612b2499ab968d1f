-- Worked examples of the generator. Assumes nothing.
use Rattle.std.specs.Prelude.{◌≡◌, Ok}
use Rattle.sources.specs.Supplies.{drawn, left}
use Rattle.sources.specs.Generators.{generator_supply}

pub record Examples : Type 0 where
  pub first_from_0 : drawn (generator_supply 0) ≡ Ok 1013904223
  pub second_from_0 : drawn (left (generator_supply 0)) ≡ Ok 1196435762
