-- Rows of numbers: the laws of their supply.
use Rattle.std.specs.Prelude.{ℕ, ◌+◌, List, take, drop, replicate}
use Rattle.std.proofs.Common.{arith}
use Rattle.std.proofs.lemmas.Grind.{common_steps}
use Rattle.sources.specs.Supplies.{Lawful}
use Rattle.sources.specs.Rows.{recorded_supply, Words}

pub row_lawful : (xs : List ℕ) → Words xs → Lawful (recorded_supply xs)
row_lawful xs w = record { none = grind (arith, common_steps); fewer = λ n h. grind (arith, common_steps); below = w }

pub words_zeros : (n : ℕ) → Words (replicate n 0)
words_zeros n = λ k. grind (arith, common_steps)

pub words_part : (p n : ℕ) (xs : List ℕ) → Words xs → Words (drop p (take n xs))
words_part p n xs w = λ k. grind (arith, common_steps, w (p + k))
