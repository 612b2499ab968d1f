-- Sound filters: what every filter is that calls can reach. Assumes nothing.
use Rattle.std.specs.Prelude.{◌≡◌, ℕ, ◌+◌, ◌<◌, ◌≤◌, true, List, [], ◌∷◌, length, drop, ◌≢◌, slice_index}
use Rattle.std.specs.List.{AllByRecursion}
use Rattle.resampling.specs.Calls.{in_range}
use Rattle.sources.specs.Supplies.{Lawful}
use Rattle.models.specs.Kinds.{Kind}
use Rattle.filter.specs.declared.phase.Phase.TheVariants.{Empty, Weighed}
use Rattle.filter.specs.Filters.{PathOf, Filter}
use Rattle.filter.specs.Uses.{all_paths, serials_on, serials, in_use}

-- serials fall from the newest pair to the oldest
abbrev pub Falling : {S : Type 0} → PathOf S → Type 0
Falling [] = Unit {0}
Falling (x ∷ []) = Unit {0}
Falling (y ∷ x ∷ p) = (x.serial < y.serial) × Falling (x ∷ p)

-- where two paths have the same serial, they are the same from there back
abbrev pub Agree : {S : Type 0} → PathOf S → PathOf S → Type 0
Agree p r = (i j : ℕ) → i < length p → j < length r → slice_index (serials_on p) i ≡ slice_index (serials_on r) j → drop i p ≡ drop j r

-- a serial stands for one node: one state, and one path that led to it
abbrev pub AllAgree : {S : Type 0} → List (PathOf S) → Type 0
AllAgree ps = AllByRecursion (λ p. AllByRecursion (Agree p) ps) ps

-- what calls keep, whatever the model and in whatever order they come
pub record Sound {S : Type 0} (f : Filter S) : Type 0 where
  -- the numbers to come
  pub supply_lawful : Lawful f.source
  -- the paths of particles and of open holds
  pub serials_fall : AllByRecursion Falling (all_paths f)
  pub serials_below_issued : AllByRecursion (λ s. s < f.issued) (serials (all_paths f))
  pub one_serial_one_node : AllAgree (all_paths f)
  pub paths_begun : AllByRecursion (λ p. 0 < length p) (all_paths f)
  -- the paths of particles
  pub paths_as_long_as_round : AllByRecursion (λ p. length p ≡ f.round + 1) f.paths
  -- hold places and nodes
  pub sixteen_places : length f.places ≡ 16
  pub in_use_within_room : in_use f ≤ f.room
  -- each phase has its particles and weights
  pub nobody_while_empty : f.phase ≡ Empty → f.paths ≡ []
  pub particles_in_range : (f.phase ≢ Empty) → in_range (length f.paths) ≡ true
  pub each_weighed : f.phase ≡ Weighed → length f.weights ≡ length f.paths

-- every value on a path is a state of the kind
abbrev pub OfKind : {S : Type 0} → Kind S → Filter S → Type 0
OfKind k f = AllByRecursion (AllByRecursion (λ x. k.is x.state ≡ true)) (all_paths f)
