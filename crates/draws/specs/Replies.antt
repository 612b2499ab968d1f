-- What a wish for a row is answered, and what it leaves. Assumes nothing.
use Rattle.std.specs.Prelude.{ℕ, Bool, cond, ◌&&◌, List, length, Ok, Err, Result, nat_le}
use Rattle.refusals.specs.declared.Refusal.{Refusal}
use Rattle.refusals.specs.declared.Refusal.TheVariants.{OutOfRange, Unknown, SourceDry}
use Rattle.sources.specs.Supplies.{Supply, after}
use Rattle.models.specs.Kinds.{Kind}
use Rattle.models.specs.Meanings.{Meaning}
use Rattle.draws.specs.Rows.{all_states}

-- a row has 1 to 256 places
abbrev pub in_range : ℕ → Bool
in_range n = nat_le 1 n && nat_le n 256

-- granted where n numbers can be drawn
abbrev pub supplied : Supply → ℕ → Result Unit Refusal
supplied s n = cond (s.can n) (Ok tt) (Err SourceDry)

-- the reply to a wish for n births
abbrev pub births_reply : Supply → ℕ → Result ℕ Refusal
births_reply s n = cond (in_range n) (cond (s.can n) (Ok n) (Err SourceDry)) (Err OutOfRange)

-- the row can be moved: the model knows the command, and every value is a state
abbrev pub movable : {S : Type 0} → Kind S → Meaning S → ℕ → List S → Bool
movable k m c xs = m.commands c && all_states k xs

-- the reply to a wish for the moves of a row
abbrev pub moves_reply : {S : Type 0} → Kind S → Meaning S → ℕ → Supply → List S → Result ℕ Refusal
moves_reply k m c s xs =
    cond (in_range (length xs))
    (cond (movable k m c xs) (cond (s.can (length xs)) (Ok (length xs)) (Err SourceDry)) (Err Unknown))
    (Err OutOfRange)

-- the row after the reply: the new one, or what it was
abbrev pub row_after : {S : Type 0} → Result ℕ Refusal → List S → List S → List S
row_after (Ok n) new old = new
row_after (Err e) new old = old

-- the supply after the reply: less so many numbers, or what it was
abbrev pub supply_after : Result ℕ Refusal → Supply → Supply
supply_after (Ok n) s = after n s
supply_after (Err e) s = s
