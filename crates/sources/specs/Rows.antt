-- The supply of a row of numbers. Assumes nothing.
use Rattle.std.specs.Prelude.{ℕ, ◌^◌, ◌<◌, List, length, nat_le, slice_index}
use Rattle.sources.specs.Supplies.{Supply}

-- the numbers of the row in their order, and no more than it has
abbrev pub recorded_supply : List ℕ → Supply
recorded_supply xs = record { to_come = λ k. slice_index xs k; can = λ n. nat_le n (length xs) }

-- each number of the row has 32 bits
abbrev pub Words : List ℕ → Type 0
Words xs = (k : ℕ) → slice_index xs k < 2 ^ 32
