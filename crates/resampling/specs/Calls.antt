-- What the calls answer, and when they refuse. Assumes nothing.
use Rattle.std.specs.Prelude.{ℕ, Bool, cond, ◌&&◌, List, ◌++◌, length, drop, Ok, Err, Result, nat_le, nat_lt}
use Rattle.std.specs.List.{list_all}
use Rattle.refusals.specs.declared.Refusal.{Refusal}
use Rattle.refusals.specs.declared.Refusal.TheVariants.{OutOfRange, AllZero, NoRoom}
use Rattle.resampling.specs.Marks.{total}

-- there are 1 to 256 particles
abbrev pub in_range : ℕ → Bool
in_range n = nat_le 1 n && nat_le n 256

-- every parent is below n
abbrev pub all_below : ℕ → List ℕ → Bool
all_below n ps = list_all (λ p. nat_lt p n) ps

-- the total of weights that can be resampled
abbrev pub total_of : List ℕ → Result ℕ Refusal
total_of ws = cond (in_range (length ws)) (cond (nat_lt 0 (total ws)) (Ok (total ws)) (Err AllZero)) (Err OutOfRange)

-- n numbers go into a row that has room for so many
abbrev pub fitting : ℕ → ℕ → Result ℕ Refusal
fitting n room = cond (nat_le n room) (Ok n) (Err NoRoom)

-- the second where the first is granted
abbrev pub and_then : {X Y : Type 0} → Result X Refusal → Result Y Refusal → Result Y Refusal
and_then (Ok x) r = r
and_then (Err e) r = Err e

-- the reply to a wish for parents, for a row that has room for so many
abbrev pub parents_reply : List ℕ → ℕ → Result ℕ Refusal
parents_reply ws room = and_then (total_of ws) (fitting (length ws) room)

-- the reply to a wish for the children of each particle
abbrev pub children_reply : List ℕ → ℕ → Result ℕ Refusal
children_reply ps room = cond (in_range (length ps) && all_below (length ps) ps) (fitting (length ps) room) (Err OutOfRange)

-- the row after the reply: the numbers in front and its old rest, or what it was
abbrev pub row_after : Result ℕ Refusal → List ℕ → List ℕ → List ℕ
row_after (Ok n) ns row = ns ++ drop n row
row_after (Err e) ns row = row
