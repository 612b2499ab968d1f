-- Under a lawful model only states come onto paths. Assumes nothing.
use Rattle.std.proofs.Common.{◌≡◌, ℕ, ◌+◌, true, List, [], ◌∷◌, Some, None, Option, refl}
use Rattle.std.specs.List.{range_with_len, AllByRecursion}
use Rattle.std.proofs.ByRecursion.{All-append, All-map}
use Rattle.refusals.specs.declared.Refusal.{Refusal}
use Rattle.models.specs.Kinds.{Kind}
use Rattle.models.specs.Meanings.{Meaning, Lawful}
use Rattle.filter.specs.Filters.{PathOf, Filter}
use Rattle.filter.specs.Uses.{opened}
use Rattle.filter.specs.Calls.{Call, start, advance, weigh, resample, hold, give_back, finish}
use Rattle.filter.specs.Refusals.{refusal}
use Rattle.filter.specs.Steps.{born, births, all_longer, granted, settle}
use Rattle.filter.specs.Sound.{Sound, OfKind}
use Rattle.filter.specs.Theorems.{EveryStepKeepsStates}
use Rattle.filter.proofs.Alls.{all_split, all_counting}
use Rattle.filter.proofs.Grants.{advances}
use Rattle.filter.proofs.Serials.{among}
use Rattle.filter.proofs.Sounds.{weigh_among, resample_among, hold_among, give_back_among, finish_among}

module _ {S : Type 0} (k : Kind S) (m : Meaning S) (l : Lawful k m) (f : Filter S) (s : Sound f) where
  abbrev States : PathOf S → Type 0
  States p = AllByRecursion (λ x. k.is x.state ≡ true) p

  born_states : (n : ℕ) → AllByRecursion States (births m f n)
  born_states n = All-map States (born m f) (range_with_len 0 n) (all_counting (λ i. States (born m f i)) 0 n (λ i a b. (l.births (f.source.to_come i) (s.supply_lawful.below i), tt)))

  longer_states : (c : ℕ) → m.commands c ≡ true → (i : ℕ) (ps : List (PathOf S)) → AllByRecursion States ps → AllByRecursion States (all_longer m f c i ps)
  longer_states c e i [] h = tt
  longer_states c e i ([] ∷ ps) h = (tt, longer_states c e (i + 1) ps h.1)
  longer_states c e i ((x ∷ p) ∷ ps) h =
      ((l.moves x.state c (f.source.to_come i) h.0.0 e (s.supply_lawful.below i), h.0), longer_states c e (i + 1) ps h.1)

  states_granted : (call : Call) (place : ℕ) → refusal m f call ≡ None → OfKind k f → OfKind k (granted m f call place)
  states_granted (start n) place e h = All-append States (births m f n) (opened f.places) (born_states n) (all_split States f.paths (opened f.places) h).1
  states_granted (advance c) place e h =
      let r = all_split States f.paths (opened f.places) h in
      All-append States (all_longer m f c 0 f.paths) (opened f.places) (longer_states c (advances m f c e).known 0 f.paths r.0) r.1
  states_granted (weigh q) place e h = among States f (granted m f (weigh q) place) (weigh_among m f s q place) h
  states_granted resample place e h = among States f (granted m f resample place) (resample_among m f s place e) h
  states_granted (hold i) place e h = among States f (granted m f (hold i) place) (hold_among m f s i place e) h
  states_granted (give_back stamp given) place e h = among States f (granted m f (give_back stamp given) place) (give_back_among m f s stamp given place) h
  states_granted finish place e h = among States f (granted m f finish place) (finish_among m f s place) h

  states_settled : (call : Call) (place : ℕ) (r : Option Refusal) → refusal m f call ≡ r → OfKind k f → OfKind k (settle r (granted m f call place) f)
  states_settled call place None e h = states_granted call place e h
  states_settled call place (Some x) e h = h

pub step_states : (S : Type 0) → EveryStepKeepsStates S
step_states S k m l f call place s h = states_settled k m l f s call place (refusal m f call) refl h
