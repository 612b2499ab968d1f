-- Every call has a reply. Assumes nothing.
use Rattle.std.proofs.Common.{◌≡◌, ℕ, suc, ◌<◌, true, List, [], ◌∷◌, length, get_or, Some, None, Option, sym, refl, ap, arith}
use Rattle.std.proofs.lemmas.Bool.{false≢true}
use Rattle.refusals.specs.declared.Refusal.{Refusal}
use Rattle.models.specs.Meanings.{Meaning}
use Rattle.filter.specs.Filters.{Filter}
use Rattle.filter.specs.Calls.{Call, start, advance, weigh, resample, hold, give_back, finish}
use Rattle.filter.specs.Refusals.{some_closed, refusal}
use Rattle.filter.specs.Steps.{granted}
use Rattle.filter.specs.Replies.{Reply, refused, done, issued_by, freed, answer, replied, reply, Tells}
use Rattle.filter.specs.Theorems.{EveryCallHasAReply}
use Rattle.filter.proofs.Grants.{holds}

-- a closed place
closed_place : {A : Type 0} (ps : List (Option A)) → some_closed ps ≡ true → (i : ℕ) × (i < length ps) × (get_or ps i None ≡ None)
closed_place [] e = absurd (false≢true e)
closed_place (None ∷ ps) e = (0, omega arith, refl)
closed_place (Some p ∷ ps) e = let r = closed_place ps e in (suc r.0, omega (arith, r.1), r.2)

module _ {S : Type 0} (m : Meaning S) (f : Filter S) where
  -- the reply of a granted call that takes the place
  abbrev granting : Call → ℕ → Reply
  granting call place = done (issued_by f call) (freed f (granted m f call place)) (answer m f call place)

  is_reply : (call : Call) (place : ℕ) → refusal m f call ≡ None → granting call place ≡ reply m f call place
  is_reply call place e = ap (λ (r : Option Refusal). replied r (issued_by f call) (freed f (granted m f call place)) (answer m f call place)) (sym e)

  tells_granted : (call : Call) → refusal m f call ≡ None → (told : Reply) × Tells m f call told
  tells_granted (start n) e = (granting (start n) 0, record { reply_is = is_reply (start n) 0 e; place_closed = tt })
  tells_granted (advance c) e = (granting (advance c) 0, record { reply_is = is_reply (advance c) 0 e; place_closed = tt })
  tells_granted (weigh q) e = (granting (weigh q) 0, record { reply_is = is_reply (weigh q) 0 e; place_closed = tt })
  tells_granted resample e = (granting resample 0, record { reply_is = is_reply resample 0 e; place_closed = tt })
  tells_granted (hold k) e =
      let p = closed_place f.places (holds m f k e).place_left in
      (granting (hold k) p.0, record { reply_is = is_reply (hold k) p.0 e; place_closed = (p.1, p.2) })
  tells_granted (give_back stamp given) e = (granting (give_back stamp given) 0, record { reply_is = is_reply (give_back stamp given) 0 e; place_closed = tt })
  tells_granted finish e = (granting finish 0, record { reply_is = is_reply finish 0 e; place_closed = tt })

  tells : (call : Call) (r : Option Refusal) → refusal m f call ≡ r → (told : Reply) × Tells m f call told
  tells call None e = tells_granted call e
  tells call (Some x) e = (
    refused x,
    record {
      reply_is = ap (λ (r : Option Refusal). replied r (issued_by f call) (freed f (granted m f call 0)) (answer m f call 0)) (sym e);
      place_closed = tt;
    },
  )

pub call_replied : (S : Type 0) → EveryCallHasAReply S
call_replied S m f call = tells m f call (refusal m f call) refl
