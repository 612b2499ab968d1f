-- Runs: lists of turns, the newest first. Assumes nothing.
use Rattle.std.specs.Prelude.{ℕ, ◌+◌, List, [], ◌∷◌}
use Rattle.models.specs.Meanings.{Meaning}
use Rattle.filter.specs.Filters.{Filter}
use Rattle.filter.specs.Calls.{Call, start, advance, weigh, resample, hold, give_back, finish}
use Rattle.filter.specs.Steps.{step}
use Rattle.filter.specs.Replies.{Reply, refused, done, told_issued, told_freed, told_place, Tells}

-- a turn: what was asked, and what was told
pub record Turn : Type 0 where
  pub call : Call
  pub told : Reply

-- all nodes issued in the run
abbrev pub all_issued : List Turn → ℕ
all_issued [] = 0
all_issued (t ∷ ts) = all_issued ts + told_issued t.told

-- all nodes freed in the run
abbrev pub all_freed : List Turn → ℕ
all_freed [] = 0
all_freed (t ∷ ts) = all_freed ts + told_freed t.told

-- the numbers drawn in a turn: one for each node issued, and one in a resampling
abbrev pub drawn_in : Call → Reply → ℕ
drawn_in c (refused e) = 0
drawn_in (start n) (done i d a) = i
drawn_in (advance c) (done i d a) = i
drawn_in (weigh q) (done i d a) = 0
drawn_in resample (done i d a) = 1
drawn_in (hold k) (done i d a) = 0
drawn_in (give_back stamp place) (done i d a) = 0
drawn_in finish (done i d a) = 0

-- all numbers drawn in the run
abbrev pub all_drawn : List Turn → ℕ
all_drawn [] = 0
all_drawn (t ∷ ts) = all_drawn ts + drawn_in t.call t.told

module _ {S : Type 0} (m : Meaning S) (f₀ : Filter S) where
  -- the filter that the run reaches from f₀
  abbrev pub reached : List Turn → Filter S
  reached [] = f₀
  reached (t ∷ ts) = step m (reached ts) t.call (told_place t.told)

  -- all that was told in the run is the filter's
  abbrev pub Told : List Turn → Type 0
  Told [] = Unit {0}
  Told (t ∷ ts) = Told ts × Tells m (reached ts) t.call t.told
