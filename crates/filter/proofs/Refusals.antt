-- A refused call leaves the filter as it was. Assumes nothing.
use Rattle.std.proofs.Common.{◌≡◌, ℕ, Some, Option, ap}
use Rattle.refusals.specs.declared.Refusal.{Refusal}
use Rattle.models.specs.Meanings.{Meaning}
use Rattle.filter.specs.Filters.{Filter}
use Rattle.filter.specs.Calls.{Call}
use Rattle.filter.specs.Refusals.{refusal}
use Rattle.filter.specs.Steps.{granted, settle, step}
use Rattle.filter.specs.Replies.{issued_by, freed, answer, replied, reply}
use Rattle.filter.specs.Theorems.{ARefusedCallChangesNothing}

module _ {S : Type 0} (m : Meaning S) (f : Filter S) (call : Call) (place : ℕ) where
  -- the filter and the reply, by what the call's refusal is
  pub step_by : (r : Option Refusal) → refusal m f call ≡ r → step m f call place ≡ settle r (granted m f call place) f
  step_by r e = ap (λ (x : Option Refusal). settle x (granted m f call place) f) e

  pub reply_by : (r : Option Refusal) → refusal m f call ≡ r → reply m f call place ≡ replied r (issued_by f call) (freed f (granted m f call place)) (answer m f call place)
  reply_by r e = ap (λ (x : Option Refusal). replied x (issued_by f call) (freed f (granted m f call place)) (answer m f call place)) e

pub refused_stays : (S : Type 0) → ARefusedCallChangesNothing S
refused_stays S m f call place e h = (step_by m f call place (Some e) h, reply_by m f call place (Some e) h)
