-- A hold frees nothing, since the place that it takes was closed. Assumes nothing.
use Rattle.std.proofs.Common.{◌≡◌, ℕ, zero, suc, ◌≤◌, List, [], ◌∷◌, get_or, set, Some, None, Option, refl, ap, ◌∙◌, arith}
use Rattle.std.specs.List.{AllByRecursion}
use Rattle.std.proofs.ByRecursion.{All-append}
use Rattle.refusals.specs.declared.Refusal.{Refusal}
use Rattle.models.specs.Meanings.{Meaning}
use Rattle.filter.specs.Filters.{PathOf, Filter}
use Rattle.filter.specs.Uses.{opened, in_use}
use Rattle.filter.specs.Calls.{hold}
use Rattle.filter.specs.Refusals.{refusal}
use Rattle.filter.specs.Steps.{path, granted}
use Rattle.filter.specs.Replies.{Reply, held, freed, replied, told_freed, told_place, TookClosed}
use Rattle.filter.specs.Sound.{Sound}
use Rattle.filter.specs.Theorems.{AHoldFreesNothing}
use Rattle.filter.proofs.Serials.{Among, in_use_among}
use Rattle.filter.proofs.Sounds.{sound_granted}

module _ {S : Type 0} (P : PathOf S → Type 0) where
  -- a path that comes into a closed place drives none out
  all_kept : (ps : List (Option (PathOf S))) (i : ℕ) (p : PathOf S) → get_or ps i None ≡ None → AllByRecursion P (opened (set ps i (Some p))) → AllByRecursion P (opened ps)
  all_kept [] i p e h = h
  all_kept (None ∷ ps) zero p e h = h.1
  all_kept (Some r ∷ ps) zero p e h = absurd (let z : ◌≡◌ {A = ℕ} 0 1 = cc in omega arith)
  all_kept (None ∷ ps) (suc i) p e h = all_kept ps i p e h
  all_kept (Some r ∷ ps) (suc i) p e h = (h.0, all_kept ps i p e h.1)

module _ {S : Type 0} (m : Meaning S) (f : Filter S) (s : Sound f) (k : ℕ) where
  none_freed : (place : ℕ) → refusal m f (hold k) ≡ None → get_or f.places place None ≡ None → freed f (granted m f (hold k) place) ≡ 0
  none_freed place e closed =
      let f' : Filter S = granted m f (hold k) place in
      let back : Among f' f = λ P a b. All-append P f.paths (opened f.places) a (all_kept P f.places place (path f k) closed b) in
      let l : in_use f ≤ in_use f' = in_use_among f' f (sound_granted m f s (hold k) place e).serials_below_issued back in
      omega arith

  freed_settled : (told : Reply) (place : ℕ) (r : Option Refusal) → refusal m f (hold k) ≡ r → told ≡ replied r 0 (freed f (granted m f (hold k) place)) (held f.stamp place) → TookClosed f.places (replied r 0 (freed f (granted m f (hold k) place)) (held f.stamp place))
      → told_freed told ≡ 0
  freed_settled told place None e w c = ap told_freed w ∙ none_freed place e c.1
  freed_settled told place (Some x) e w c = ap told_freed w

pub hold_frees_nothing : (S : Type 0) → AHoldFreesNothing S
hold_frees_nothing S m f k told s t = freed_settled m f s k told (told_place told) (refusal m f (hold k)) refl t.reply_is (rw t.reply_is at t.place_closed)
