-- Kinds of state: which values are states, and their codes. Assumes nothing.
use Rattle.std.specs.Prelude.{◌≡◌, ℕ, ◌^◌, ◌<◌, Bool, true, cond, Some, None, Option, Ok, Err, Result}
use Rattle.refusals.specs.declared.Refusal.{Refusal}
use Rattle.refusals.specs.declared.Refusal.TheVariants.{Unknown}

-- a kind of state
pub record Kind (S : Type 0) : Type 0 where
  -- the value is a state
  pub is : S → Bool

-- a value that is a state, and a refusal of another
abbrev pub state_reply : {S : Type 0} → Kind S → S → Result S Refusal
state_reply k s = cond (k.is s) (Ok s) (Err Unknown)

-- a kind of state with codes
pub record Coding (S : Type 0) : Type 0 where
  -- the value is a state
  pub is : S → Bool
  pub code : S → ℕ
  -- what a number gives back
  pub back : ℕ → Option S

-- n is the code of the state s
abbrev pub IsCode : {S : Type 0} → Coding S → ℕ → S → Type 0
IsCode c n s = (c.is s ≡ true) × (c.code s ≡ n)

-- a number gives back s exactly when it is the code of the state s
pub record Exact {S : Type 0} (c : Coding S) : Type 0 where
  pub gives : (n : ℕ) (s : S) → c.back n ≡ Some s → IsCode c n s
  pub takes : (n : ℕ) (s : S) → IsCode c n s → c.back n ≡ Some s
  pub below : (n : ℕ) (s : S) → IsCode c n s → n < 2 ^ 32

-- the code of a state, and none of another value
abbrev pub code_reply : {S : Type 0} → Coding S → S → Option ℕ
code_reply c s = cond (c.is s) (Some (c.code s)) None
