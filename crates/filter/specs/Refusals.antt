-- When a call is refused, and by which refusal: the first of the call's own that fits. Assumes nothing.
use Rattle.std.specs.Prelude.{Bool, true, false, ◌&&◌, List, [], ◌∷◌, length, is_some, Some, None, Option, ◌==◌, nat_le, nat_lt, slice_index_or}
use Rattle.refusals.specs.declared.Refusal.{Refusal}
use Rattle.refusals.specs.declared.Refusal.TheVariants.{WrongPhase, OutOfRange, Unknown, NotHeld, NoPlaceLeft, NoNodesLeft, SourceDry, AllZero}
use Rattle.resampling.specs.Marks.{total}
use Rattle.resampling.specs.Calls.{in_range}
use Rattle.models.specs.Meanings.{Meaning}
use Rattle.filter.specs.declared.phase.Phase.{Phase}
use Rattle.filter.specs.declared.phase.Phase.TheVariants.{Empty, Level, Weighed}
use Rattle.filter.specs.Filters.{Filter}
use Rattle.filter.specs.Uses.{free}
use Rattle.filter.specs.Calls.{Call, start, advance, weigh, resample, hold, give_back, finish}

-- there are no particles
abbrev pub is_empty : Phase → Bool
is_empty Empty = true
is_empty Level = false
is_empty Weighed = false

-- there are particles, and all weigh the same
abbrev pub is_level : Phase → Bool
is_level Empty = false
is_level Level = true
is_level Weighed = false

-- each particle has the weight of a reading
abbrev pub is_weighed : Phase → Bool
is_weighed Empty = false
is_weighed Level = false
is_weighed Weighed = true

-- there are particles
abbrev pub is_living : Phase → Bool
is_living Empty = false
is_living Level = true
is_living Weighed = true

-- some place is closed
abbrev pub some_closed : {A : Type 0} → List (Option A) → Bool
some_closed [] = false
some_closed (None ∷ ps) = true
some_closed (Some p ∷ ps) = some_closed ps

-- the refusal, unless the test passes; then what is tested after it
abbrev pub unless : Bool → Refusal → Option Refusal → Option Refusal
unless true e rest = rest
unless false e rest = Some e

-- the first refusal that fits, or none
abbrev pub refusal : {S : Type 0} → Meaning S → Filter S → Call → Option Refusal
refusal m f (start n) =
    unless (is_empty f.phase) WrongPhase
    (unless (in_range n) OutOfRange
    (unless (nat_le n (free f)) NoNodesLeft
    (unless (f.source.can n) SourceDry None)))
refusal m f (advance c) =
    unless (is_level f.phase) WrongPhase
    (unless (m.commands c) Unknown
    (unless (nat_le (length f.paths) (free f)) NoNodesLeft
    (unless (f.source.can (length f.paths)) SourceDry None)))
refusal m f (weigh q) =
    unless (is_level f.phase) WrongPhase
    (unless (m.readings q) Unknown None)
refusal m f resample =
    unless (is_weighed f.phase) WrongPhase
    (unless (f.source.can 1) SourceDry
    (unless (nat_lt 0 (total f.weights)) AllZero None))
refusal m f (hold k) =
    unless (is_living f.phase) WrongPhase
    (unless (nat_lt k (length f.paths)) OutOfRange
    (unless (some_closed f.places) NoPlaceLeft None))
refusal m f (give_back stamp place) =
    unless (stamp == f.stamp && is_some (slice_index_or f.places place None)) NotHeld None
refusal m f finish =
    unless (is_living f.phase) WrongPhase None
