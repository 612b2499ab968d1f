-- When the parts of a cloud represent a reference filter. Assumes nothing.
use Rattle.std.specs.Prelude.{◌≡◌, ℕ, ◌<◌, List, [], length, Some, None, Option, slice_index, slice_index_or}
use Rattle.filter.specs.declared.phase.Phase.{Phase}
use Rattle.filter.specs.declared.phase.Phase.TheVariants.{Weighed}
use Rattle.filter.specs.Filters.{PathOf, Filter}
use Rattle.filter.specs.Sound.{Sound}
use Rattle.cloud.specs.declared.node.Node.{Node}
use Rattle.cloud.specs.Links.{Link, links, states}
use Rattle.cloud.specs.Trees.{Tree}
use Rattle.cloud.specs.Tracks.{Track, Inverse, named}

-- the parts of a cloud
pub record View (S : Type 0) : Type 0 where
  -- the nodes that the maker uses, the first free one, and how many are free
  pub nodes : List (Node S)
  pub head : Option ℕ
  pub free : ℕ
  -- the newest node of each particle, and the particles' weights
  pub tips : List ℕ
  pub weights : List ℕ
  -- the newest node of each open hold
  pub holds : List (Option ℕ)
  pub phase : Phase
  pub round : ℕ
  pub stamp : ℕ

-- the place is closed in both, or open at a node from which the path is read
abbrev pub Alike : {S : Type 0} → List Link → List S → (ℕ → ℕ) → Option ℕ → Option (PathOf S) → Type 0
Alike ls ss serial None None = Unit {0}
Alike ls ss serial None (Some p) = ⊥
Alike ls ss serial (Some n) None = ⊥
Alike ls ss serial (Some n) (Some p) = Track ls ss serial (Some n) p

-- the parts are those of a cloud in the filter's state, where node gives the node of each serial in use
pub record Represents {S : Type 0} (node : ℕ → ℕ) (v : View S) (f : Filter S) : Type 0 where
  -- the filter is one that calls can reach
  pub sound : Sound f
  -- the nodes are a tree, with serials that node takes back to them
  pub serial : ℕ → ℕ
  pub tree : Tree (links v.nodes) v.head v.free (named v.tips v.holds) serial f.issued
  pub inverse : Inverse (links v.nodes) serial node
  -- the paths of the particles and of the holds are the filter's
  pub number : length f.paths ≡ length v.tips
  pub paths_are : (i : ℕ) → i < length v.tips → Track (links v.nodes) (states v.nodes) serial (Some (slice_index v.tips i)) (slice_index_or f.paths i [])
  pub sixteen : length v.holds ≡ 16
  pub places_are : (j : ℕ) → j < 16 → Alike (links v.nodes) (states v.nodes) serial (slice_index_or v.holds j None) (slice_index_or f.places j None)
  -- and so is the rest
  pub phase : f.phase ≡ v.phase
  pub round : f.round ≡ v.round
  pub stamp : f.stamp ≡ v.stamp
  pub room : f.room ≡ length v.nodes
  pub weights : v.phase ≡ Weighed → f.weights ≡ v.weights

-- the parts represent some filter
abbrev pub SomeFilter : {S : Type 0} → View S → Type 0
SomeFilter {S} v = ∥ ((node : ℕ → ℕ) × (f : Filter S) × Represents node v f) ∥₁

-- the same, of the parts one by one
abbrev pub SomeFilterOf : {S : Type 0} → List (Node S) → Option ℕ → ℕ → List ℕ → List ℕ → List (Option ℕ) → Phase → ℕ → ℕ → Type 0
SomeFilterOf nodes head free tips weights holds phase round stamp =
    SomeFilter (record { nodes = nodes; head = head; free = free; tips = tips; weights = weights; holds = holds; phase = phase; round = round; stamp = stamp })
