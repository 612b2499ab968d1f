-- What each call of a cloud promises. Assumes nothing.
use Rattle.std.specs.Prelude.{◌≡◌, ℕ, ◌<◌, ◌≤◌, List, [], ◌∷◌, None}
use Rattle.sources.specs.Supplies.{Supply, Lawful}
use Rattle.models.specs.Kinds.{Kind}
use Rattle.models.specs.Meanings.{Meaning, Lawful as LawfulModel}
use Rattle.filter.specs.Filters.{Filter, fresh}
use Rattle.filter.specs.Calls.{Call}
use Rattle.filter.specs.Steps.{step}
use Rattle.filter.specs.Replies.{Reply, Tells, told_place}
use Rattle.filter.specs.Runs.{Turn, reached, Told}
use Rattle.filter.specs.Sound.{OfKind}
use Rattle.cloud.specs.Representations.{View, Represents}
use Rattle.cloud.specs.Seen.{seen_at}
use Rattle.cloud.specs.Ancestry.{Ancestry}

-- nodes keep their numbers: no serial issued before changes its node, and a node that is issued was not in use
pub record Stay {S : Type 0} (v : View S) (node node' : ℕ → ℕ) (before now_issued : ℕ) : Type 0 where
  pub kept : (s : ℕ) → s < before → node' s ≡ node s
  pub new : (s : ℕ) → before ≤ s → s < now_issued → seen_at v.nodes (node' s) ≡ None

-- one step of the filter f, which the cloud represented: what was told is the filter's reply, and the cloud represents its step
pub record Taken {S : Type 0} (m : Meaning S) (call : Call) (told : Reply) (v v' : View S) (q' : Supply) (node : ℕ → ℕ) (f : Filter S) : Type 0 where
  pub tells : Tells m f call told
  pub node' : ℕ → ℕ
  pub represents : Represents node' v' (step m f call (told_place told))
  pub source : (step m f call (told_place told)).source ≡ q'
  pub stay : Stay v node node' f.issued (step m f call (told_place told)).issued

-- every filter that cloud and source represent before the call takes the step that was told
abbrev pub Follows : {S : Type 0} → Meaning S → Call → Reply → View S → Supply → View S → Supply → Type 0
Follows {S} m call told v q v' q' = (node : ℕ → ℕ) (f : Filter S) → Represents node v f → f.source ≡ q → Taken m call told v v' q' node f

-- the same of every lawful model of a kind of state, for filters with nothing but states on paths
abbrev pub Steps : {S : Type 0} → Kind S → Meaning S → Call → Reply → View S → Supply → View S → Supply → Type 0
Steps {S} k m call told v q v' q' =
    LawfulModel k m → (node : ℕ → ℕ) (f : Filter S) → Represents node v f → OfKind k f → f.source ≡ q
    → Taken m call told v v' q' node f × OfKind k (step m f call (told_place told))

-- the run ts, begun at f₀, has led to the cloud and the source: all that was told is the filter's, and they represent the filter that it reached
pub record LedTo {S : Type 0} (m : Meaning S) (f₀ : Filter S) (ts : List Turn) (node : ℕ → ℕ) (v : View S) (q : Supply) : Type 0 where
  pub told : Told m f₀ ts
  pub represents : Represents node v (reached m f₀ ts)
  pub source : (reached m f₀ ts).source ≡ q

-- the run with one turn more
abbrev pub then_turn : Call → Reply → List Turn → List Turn
then_turn call told ts = record { call = call; told = told } ∷ ts

-- the run goes on to the cloud and the source after the call, nodes keep their numbers, and the ancestry theorem stands
pub record Next {S : Type 0} (m : Meaning S) (f₀ : Filter S) (ts : List Turn) (call : Call) (told : Reply) (node : ℕ → ℕ) (v v' : View S) (q' : Supply) : Type 0 where
  pub node' : ℕ → ℕ
  pub led_to : LedTo m f₀ (then_turn call told ts) node' v' q'
  pub stay : Stay v node node' (reached m f₀ ts).issued (reached m f₀ (then_turn call told ts)).issued
  pub ancestry : Ancestry m f₀ (then_turn call told ts) node' v' q'

-- every run, of any calls since the maker, that has led to the cloud and the source before the call goes on with it
abbrev pub GoesOn : {S : Type 0} → Kind S → Meaning S → Call → Reply → View S → Supply → View S → Supply → Type 0
GoesOn {S} k m call told v q v' q' =
    LawfulModel k m → (brought stamp : ℕ) (q₀ : Supply) → Lawful q₀ → (ts : List Turn) (node : ℕ → ℕ)
    → LedTo m (fresh brought stamp q₀) ts node v q → Next m (fresh brought stamp q₀) ts call told node v v' q'

-- the run that no call belongs to yet has led to what the maker leaves, and the ancestry theorem stands
abbrev pub Begins : {S : Type 0} → ℕ → ℕ → View S → Type 0
Begins {S} brought stamp v =
    (m : Meaning S) (node : ℕ → ℕ) (q₀ : Supply) → Lawful q₀
    → LedTo m (fresh brought stamp q₀) [] node v q₀ × Ancestry m (fresh brought stamp q₀) [] node v q₀

-- any run that has led to a cloud has the ancestry theorem
abbrev pub EveryRunHasItsAncestry : Type 0 → Type 0
EveryRunHasItsAncestry S =
    (m : Meaning S) (brought stamp : ℕ) (q₀ : Supply) → Lawful q₀ → (ts : List Turn) (node : ℕ → ℕ) (v : View S) (q : Supply)
    → LedTo m (fresh brought stamp q₀) ts node v q → Ancestry m (fresh brought stamp q₀) ts node v q
