-- What a recorded source holds, and what a call makes of it. Assumes nothing.
use Rattle.std.specs.Prelude.{ℕ, ◌+◌, cond, List, [], ◌∷◌, ◌++◌, take, drop, Ok, Err, Result, nat_lt}
use Rattle.refusals.specs.declared.Refusal.{Refusal}
use Rattle.refusals.specs.declared.Refusal.TheVariants.{NoRoom}
use Rattle.sources.specs.declared.recorded.Recorded.{Recorded}

-- how many numbers were ever recorded, and those still to come
pub record Recording : Type 0 where
  pub ever : ℕ
  pub row : List ℕ

-- what the source holds
abbrev pub recording : Recorded → Recording
recording s = record { ever = s.count; row = drop s.place (take s.count s.numbers) }

-- before any number was recorded
abbrev pub nothing_recorded : Recording
nothing_recorded = record { ever = 0; row = [] }

-- the reply to one number more: there is room for 512
abbrev pub record_reply : Recording → Result Unit Refusal
record_reply t = cond (nat_lt t.ever 512) (Ok tt) (Err NoRoom)

-- one number more, after those still to come
abbrev pub pushed : ℕ → Recording → Recording
pushed v t = record { ever = t.ever + 1; row = t.row ++ (v ∷ []) }

-- what the source holds after that reply
abbrev pub with_number : ℕ → Recording → Recording
with_number v t = cond (nat_lt t.ever 512) (pushed v t) t

-- one number fewer to come, if there is one
abbrev pub less_first : Recording → Recording
less_first t = record { ever = t.ever; row = drop 1 t.row }
