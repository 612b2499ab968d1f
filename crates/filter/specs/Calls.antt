-- The calls of a filter. Assumes nothing.
use Rattle.std.specs.Prelude.{ℕ}

-- what is asked of a filter
pub data Call : Type 0 where
  -- how many particles
  start : ℕ → Call
  -- the command
  advance : ℕ → Call
  -- the reading
  weigh : ℕ → Call
  resample : Call
  -- the particle
  hold : ℕ → Call
  -- the hold, by its stamp and its place
  give_back : ℕ → ℕ → Call
  finish : Call
