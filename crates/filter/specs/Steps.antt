-- What a call makes of the filter. Assumes nothing.
use Rattle.std.specs.Prelude.{ℕ, ◌+◌, List, [], ◌∷◌, map, length, get_or, set, Some, None, Option}
use Rattle.std.specs.List.{range_with_len}
use Rattle.refusals.specs.declared.Refusal.{Refusal}
use Rattle.resampling.specs.Marks.{total, offset, parents}
use Rattle.sources.specs.Supplies.{Supply, after}
use Rattle.models.specs.Meanings.{Meaning}
use Rattle.filter.specs.declared.phase.Phase.{Phase}
use Rattle.filter.specs.declared.phase.Phase.TheVariants.{Empty, Level, Weighed}
use Rattle.filter.specs.Filters.{PathOf, Filter}
use Rattle.filter.specs.Calls.{Call, start, advance, weigh, resample, hold, give_back, finish}
use Rattle.filter.specs.Refusals.{refusal}

-- Parts of the steps

-- the path of a particle that begins with number k of those to come
abbrev pub born : {S : Type 0} → Meaning S → Filter S → ℕ → PathOf S
born m f k = record { state = m.birth (f.source.to_come k); serial = f.issued + k } ∷ []

-- the paths of n particles that begin
abbrev pub births : {S : Type 0} → Meaning S → Filter S → ℕ → List (PathOf S)
births m f n = map (born m f) (range_with_len 0 n)

-- a path, longer by the move of its newest state under command c with number k of those to come
abbrev pub longer : {S : Type 0} → Meaning S → Filter S → ℕ → ℕ → PathOf S → PathOf S
longer m f c k [] = []
longer m f c k (x ∷ p) = record { state = m.move x.state c (f.source.to_come k); serial = f.issued + k } ∷ x ∷ p

-- each path longer: the first with number k, the next with number k + 1, and so on
abbrev pub all_longer : {S : Type 0} → Meaning S → Filter S → ℕ → ℕ → List (PathOf S) → List (PathOf S)
all_longer m f c k [] = []
all_longer m f c k (p ∷ ps) = longer m f c k p ∷ all_longer m f c (k + 1) ps

-- the score of a path's newest state
abbrev pub weight : {S : Type 0} → Meaning S → ℕ → PathOf S → ℕ
weight m q [] = 0
weight m q (x ∷ p) = m.score x.state q

-- the path of a particle
abbrev pub path : {S : Type 0} → Filter S → ℕ → PathOf S
path f k = get_or f.paths k []

-- the parents of a resampling made now: the filter takes them by this name alone
abbrev pub parents_now : {S : Type 0} → Filter S → List ℕ
parents_now f = parents f.weights (offset (f.source.to_come 0) (total f.weights))

-- What granted calls leave

-- the level filter in that round with these paths, for which n nodes were issued and n numbers drawn
abbrev pub grown : {S : Type 0} → Filter S → ℕ → ℕ → List (PathOf S) → Filter S
grown f round n paths = record {
  phase = Level;
  round = round;
  paths = paths;
  weights = f.weights;
  source = after n f.source;
  places = f.places;
  issued = f.issued + n;
  room = f.room;
  stamp = f.stamp;
}

-- the filter weighed so
abbrev pub with_weights : {S : Type 0} → Filter S → List ℕ → Filter S
with_weights f weights = record {
  phase = Weighed;
  round = f.round;
  paths = f.paths;
  weights = weights;
  source = f.source;
  places = f.places;
  issued = f.issued;
  room = f.room;
  stamp = f.stamp;
}

-- the filter in that phase with these paths and these numbers to come
abbrev pub with_paths : {S : Type 0} → Filter S → Phase → Supply → List (PathOf S) → Filter S
with_paths f phase source paths = record {
  phase = phase;
  round = f.round;
  paths = paths;
  weights = f.weights;
  source = source;
  places = f.places;
  issued = f.issued;
  room = f.room;
  stamp = f.stamp;
}

-- the filter with these hold places
abbrev pub with_places : {S : Type 0} → Filter S → List (Option (PathOf S)) → Filter S
with_places f places = record {
  phase = f.phase;
  round = f.round;
  paths = f.paths;
  weights = f.weights;
  source = f.source;
  places = places;
  issued = f.issued;
  room = f.room;
  stamp = f.stamp;
}

-- the filter after a granted call; a hold takes the place that is given, and no other call reads it
abbrev pub granted : {S : Type 0} → Meaning S → Filter S → Call → ℕ → Filter S
granted m f (start n) place = grown f 0 n (births m f n)
granted m f (advance c) place = grown f (f.round + 1) (length f.paths) (all_longer m f c 0 f.paths)
granted m f (weigh q) place = with_weights f (map (weight m q) f.paths)
granted m f resample place = with_paths f Level (after 1 f.source) (map (path f) (parents_now f))
granted m f (hold k) place = with_places f (set f.places place (Some (path f k)))
granted m f (give_back stamp held) place = with_places f (set f.places held None)
granted m f finish place = with_paths f Empty f.source []

-- x where nothing is refused, else y
abbrev pub settle {ℓ} : {A : Type ℓ} → Option Refusal → A → A → A
settle None x y = x
settle (Some e) x y = y

-- the filter after a call, granted or refused
abbrev pub step : {S : Type 0} → Meaning S → Filter S → Call → ℕ → Filter S
step m f call place = settle (refusal m f call) (granted m f call place) f
