-- Replies: what a call tells of nodes, and its answer. Assumes nothing.
use Rattle.std.specs.Prelude.{◌≡◌, ℕ, ◌-◌, ◌<◌, List, map, length, Some, None, Option, slice_index_or}
use Rattle.refusals.specs.declared.Refusal.{Refusal}
use Rattle.resampling.specs.Marks.{total}
use Rattle.models.specs.Meanings.{Meaning}
use Rattle.filter.specs.Filters.{Filter}
use Rattle.filter.specs.Uses.{in_use}
use Rattle.filter.specs.Calls.{Call, start, advance, weigh, resample, hold, give_back, finish}
use Rattle.filter.specs.Refusals.{refusal}
use Rattle.filter.specs.Steps.{weight, granted}

-- what a granted call answers beside the nodes
pub data Answer : Type 0 where
  nothing : Answer
  -- the total of the weights
  weighing : ℕ → Answer
  -- a hold, by its stamp and its place
  held : ℕ → ℕ → Answer

-- what a call tells
pub data Reply : Type 0 where
  -- no node was issued and none was freed
  refused : Refusal → Reply
  -- nodes issued, nodes freed, and the answer
  done : ℕ → ℕ → Answer → Reply

-- how many nodes a granted call issues
abbrev pub issued_by : {S : Type 0} → Filter S → Call → ℕ
issued_by f (start n) = n
issued_by f (advance c) = length f.paths
issued_by f (weigh q) = 0
issued_by f resample = 0
issued_by f (hold k) = 0
issued_by f (give_back stamp place) = 0
issued_by f finish = 0

-- how many nodes are free again in f': the fall of the number in use, else 0
abbrev pub freed : {S : Type 0} → Filter S → Filter S → ℕ
freed f f' = in_use f - in_use f'

-- the answer of a granted call; a hold takes the place that is given
abbrev pub answer : {S : Type 0} → Meaning S → Filter S → Call → ℕ → Answer
answer m f (start n) place = nothing
answer m f (advance c) place = nothing
answer m f (weigh q) place = weighing (total (map (weight m q) f.paths))
answer m f resample place = nothing
answer m f (hold k) place = held f.stamp place
answer m f (give_back stamp given) place = nothing
answer m f finish place = nothing

-- the refusal, or the rest where there is none
abbrev pub replied : Option Refusal → ℕ → ℕ → Answer → Reply
replied None i d a = done i d a
replied (Some e) i d a = refused e

-- the reply to a call; a hold takes the place that is given
abbrev pub reply : {S : Type 0} → Meaning S → Filter S → Call → ℕ → Reply
reply m f call place = replied (refusal m f call) (issued_by f call) (freed f (granted m f call place)) (answer m f call place)

-- What a reply tells

-- the nodes issued
abbrev pub told_issued : Reply → ℕ
told_issued (refused e) = 0
told_issued (done i d a) = i

-- the nodes freed
abbrev pub told_freed : Reply → ℕ
told_freed (refused e) = 0
told_freed (done i d a) = d

-- the place of a hold, else 0
abbrev pub place_in : Answer → ℕ
place_in nothing = 0
place_in (weighing w) = 0
place_in (held stamp place) = place

-- the place that a hold took
abbrev pub told_place : Reply → ℕ
told_place (refused e) = 0
told_place (done i d a) = place_in a

-- an answer names no hold, or one on a place that was closed
abbrev pub WasClosed : {A : Type 0} → List (Option A) → Answer → Type 0
WasClosed places nothing = Unit {0}
WasClosed places (weighing w) = Unit {0}
WasClosed places (held stamp place) = (place < length places) × (slice_index_or places place None ≡ None)

-- a place that was taken was closed
abbrev pub TookClosed : {A : Type 0} → List (Option A) → Reply → Type 0
TookClosed places (refused e) = Unit {0}
TookClosed places (done i d a) = WasClosed places a

-- what was told is the filter's reply, and a place taken was closed
pub record Tells {S : Type 0} (m : Meaning S) (f : Filter S) (call : Call) (told : Reply) : Type 0 where
  pub reply_is : told ≡ reply m f call (told_place told)
  pub place_closed : TookClosed f.places told
