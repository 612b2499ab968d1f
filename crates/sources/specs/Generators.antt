-- The generator's step, and its supply from a value on. Assumes nothing.
use Rattle.std.specs.Prelude.{ℕ, zero, suc, ◌+◌, ◌*◌, ◌%◌, ◌^◌, true}
use Rattle.sources.specs.Supplies.{Supply}

-- the value after a draw, which is the number drawn
abbrev pub step : ℕ → ℕ
step v = (1664525 * v + 1013904223) % 2 ^ 32

-- the value after n draws
abbrev pub steps : ℕ → ℕ → ℕ
steps zero v = v
steps (suc n) v = steps n (step v)

-- number k is the value after k + 1 draws, and there is no end
abbrev pub generator_supply : ℕ → Supply
generator_supply v = record { to_come = λ k. steps k (step v); can = λ _. true }
