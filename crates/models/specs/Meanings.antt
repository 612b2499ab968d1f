-- What a model means, when it is lawful, and what it answers. Assumes nothing.
use Rattle.std.specs.Prelude.{◌≡◌, ℕ, ◌^◌, ◌<◌, ◌≤◌, Bool, true, cond, ◌&&◌, Ok, Err, Result}
use Rattle.refusals.specs.declared.Refusal.{Refusal}
use Rattle.refusals.specs.declared.Refusal.TheVariants.{Unknown}
use Rattle.models.specs.Kinds.{Kind}

-- a model over states S
pub record Meaning (S : Type 0) : Type 0 where
  -- the commands and the readings that the model knows
  pub commands : ℕ → Bool
  pub readings : ℕ → Bool
  -- a draw from the prior: the first state that a number gives
  pub birth : ℕ → S
  -- a draw from the transition: where a state goes under a command and a number
  pub move : S → ℕ → ℕ → S
  -- the likelihood of a reading in a state, up to a common factor
  pub score : S → ℕ → ℕ

-- a model keeps to the states of its kind, and to the range of scores
pub record Lawful {S : Type 0} (k : Kind S) (m : Meaning S) : Type 0 where
  -- births are states
  pub births : (r : ℕ) → r < 2 ^ 32 → k.is (m.birth r) ≡ true
  -- states move to states
  pub moves : (s : S) (c r : ℕ) → k.is s ≡ true → m.commands c ≡ true → r < 2 ^ 32 → k.is (m.move s c r) ≡ true
  -- scores fit 16 bits
  pub scores : (s : S) (q : ℕ) → k.is s ≡ true → m.readings q ≡ true → m.score s q ≤ 65535

-- the answer to a move: where the state goes, or a refusal of what is no state or no known command
abbrev pub move_reply : {S : Type 0} → Kind S → Meaning S → S → ℕ → ℕ → Result S Refusal
move_reply k m s c r = cond (k.is s && m.commands c) (Ok (m.move s c r)) (Err Unknown)

-- the answer to a reading: its score, or a refusal of what is no state or no known reading
abbrev pub score_reply : {S : Type 0} → Kind S → Meaning S → S → ℕ → Result ℕ Refusal
score_reply k m s q = cond (k.is s && m.readings q) (Ok (m.score s q)) (Err Unknown)
