-- What a granted call tells. Assumes nothing.
use Rattle.std.proofs.Common.{◌≡◌, ℕ, ◌<◌, ◌≤◌, Bool, true, false, cond, ◌&&◌, ltb, leb, List, length, Ok, Err, Result, sym, refl, ap, ◌∙◌, arith}
use Rattle.std.proofs.lemmas.Bool.{ltb-true, leb-true}
use Rattle.refusals.specs.declared.Refusal.{Refusal}
use Rattle.resampling.specs.Calls.{in_range, all_below, total_of, fitting, and_then, parents_reply, children_reply}
use Rattle.resampling.specs.Marks.{total}

no_answer : {X : Type 0} (n : ℕ) (e : Refusal) → Ok n ≡ Err e → X
no_answer n e h = let z : ◌≡◌ {A = ℕ} 0 1 = cc in absurd (omega arith)

-- a test that was passed
if_ok : (t : Bool) (r : Result ℕ Refusal) (e : Refusal) (n : ℕ) → Ok n ≡ cond t r (Err e) → (t ≡ true) × (Ok n ≡ r)
if_ok true r e n h = (refl, h)
if_ok false r e n h = no_answer n e h

pub total_granted : (ws : List ℕ) (w : ℕ) → Ok w ≡ total_of ws → (in_range (length ws) ≡ true) × (0 < total ws) × (w ≡ total ws)
total_granted ws w h =
    let range = if_ok (in_range (length ws)) _ _ w h in
    let some = if_ok (ltb 0 (total ws)) _ _ w range.1 in
    (range.0, ltb-true 0 (total ws) some.0, cc some.1)

pub fitting_granted : (n room m : ℕ) → Ok m ≡ fitting n room → (n ≤ room) × (m ≡ n)
fitting_granted n room m h = let fits = if_ok (leb n room) (Ok n) _ m h in (leb-true n room fits.0, cc fits.1)

then_granted : (r s : Result ℕ Refusal) (n : ℕ) → Ok n ≡ and_then r s → (w : ℕ) × (Ok w ≡ r) × (Ok n ≡ s)
then_granted (Ok w) s n h = (w, refl, h)
then_granted (Err e) s n h = no_answer n e h

pub parents_granted : (ws : List ℕ) (room n : ℕ) → Ok n ≡ parents_reply ws room → (Ok (total ws) ≡ total_of ws) × (0 < total ws) × (n ≡ length ws)
parents_granted ws room n h =
    let both = then_granted (total_of ws) (fitting (length ws) room) n h in
    let told = total_granted ws both.0 both.1 in
    (ap (λ (w : ℕ). Ok w) (sym told.2) ∙ both.1, told.1, (fitting_granted (length ws) room n both.2).1)

pub children_granted : (ps : List ℕ) (room n : ℕ) → Ok n ≡ children_reply ps room → (Ok n ≡ fitting (length ps) room) × (n ≡ length ps)
children_granted ps room n h =
    let known = if_ok (in_range (length ps) && all_below (length ps) ps) (fitting (length ps) room) _ n h in
    (known.1, (fitting_granted (length ps) room n known.1).1)
