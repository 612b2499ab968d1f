-- What is shown of the reference filter, over a type of states. Assumes nothing.
use Rattle.std.specs.Prelude.{◌≡◌, ℕ, ◌+◌, ◌≤◌, List, length, Some}
use Rattle.std.specs.List.{AllByRecursion}
use Rattle.refusals.specs.declared.Refusal.{Refusal}
use Rattle.sources.specs.Supplies.{Supply, Lawful}
use Rattle.models.specs.Kinds.{Kind}
use Rattle.models.specs.Meanings.{Meaning, Lawful as LawfulModel}
use Rattle.filter.specs.Filters.{Filter, fresh}
use Rattle.filter.specs.Uses.{all_paths, in_use}
use Rattle.filter.specs.Calls.{Call, hold}
use Rattle.filter.specs.Refusals.{refusal}
use Rattle.filter.specs.Steps.{step}
use Rattle.filter.specs.Replies.{Reply, refused, reply, told_issued, told_freed, Tells}
use Rattle.filter.specs.Runs.{Turn, reached, Told}
use Rattle.filter.specs.Sound.{Sound, OfKind}
use Rattle.filter.specs.Genealogies.{Genealogy}

-- every call can be told of: a hold that is granted finds a closed place. So there are runs of any calls
abbrev pub EveryCallHasAReply : Type 0 → Type 0
EveryCallHasAReply S = (m : Meaning S) (f : Filter S) (call : Call) → (told : Reply) × Tells m f call told

-- a refused call leaves the filter as it was, and tells nothing but the refusal
abbrev pub ARefusedCallChangesNothing : Type 0 → Type 0
ARefusedCallChangesNothing S = (m : Meaning S) (f : Filter S) (call : Call) (place : ℕ) (e : Refusal) → refusal m f call ≡ Some e → (step m f call place ≡ f) × (reply m f call place ≡ refused e)

-- any call leaves a sound filter sound, whatever the model
abbrev pub EveryStepKeepsSoundness : Type 0 → Type 0
EveryStepKeepsSoundness S = (m : Meaning S) (f : Filter S) (call : Call) (place : ℕ) → Sound f → Sound (step m f call place)

-- a call changes the number of nodes in use by those that it issued and those that it freed
abbrev pub EveryStepBalances : Type 0 → Type 0
EveryStepBalances S = (m : Meaning S) (f : Filter S) (call : Call) (place : ℕ) → Sound f
    → in_use (step m f call place) + told_freed (reply m f call place) ≡ in_use f + told_issued (reply m f call place)

-- a hold frees nothing: the place that it takes was closed
abbrev pub AHoldFreesNothing : Type 0 → Type 0
AHoldFreesNothing S = (m : Meaning S) (f : Filter S) (k : ℕ) (told : Reply) → Sound f → Tells m f (hold k) told → told_freed told ≡ 0

-- under a lawful model, only states come onto paths
abbrev pub EveryStepKeepsStates : Type 0 → Type 0
EveryStepKeepsStates S = (k : Kind S) (m : Meaning S) → LawfulModel k m → (f : Filter S) (call : Call) (place : ℕ) → Sound f → OfKind k f → OfKind k (step m f call place)

-- a path is no longer than the nodes in use, so the round stays below the nodes that the maker uses
abbrev pub NoPathIsLongerThanTheNodesInUse : Type 0 → Type 0
NoPathIsLongerThanTheNodesInUse S = (f : Filter S) → Sound f → AllByRecursion (λ p. length p ≤ in_use f) (all_paths f)

-- every run from a fresh filter leaves it sound
abbrev pub EveryRunIsSound : Type 0 → Type 0
EveryRunIsSound S = (m : Meaning S) (brought stamp : ℕ) (q : Supply) → Lawful q → (ts : List Turn) → Sound (reached m (fresh brought stamp q) ts)

-- and has only states on paths, under a lawful model
abbrev pub EveryRunKeepsStates : Type 0 → Type 0
EveryRunKeepsStates S = (k : Kind S) (m : Meaning S) → LawfulModel k m → (brought stamp : ℕ) (q : Supply) → Lawful q → (ts : List Turn) → OfKind k (reached m (fresh brought stamp q) ts)

-- after every run, in which all that was told is the filter's, its genealogy stands
abbrev pub EveryRunHasItsGenealogy : Type 0 → Type 0
EveryRunHasItsGenealogy S = (m : Meaning S) (brought stamp : ℕ) (q : Supply) → Lawful q → (ts : List Turn) → Told m (fresh brought stamp q) ts → Genealogy m (fresh brought stamp q) ts
