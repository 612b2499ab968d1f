-- What is seen of a cloud's nodes, and when a cloud shows the paths of a reference filter. Assumes nothing.
use Rattle.std.specs.Prelude.{◌≡◌, ℕ, ◌<◌, true, cond, List, [], ◌∷◌, map, length, is_some, Some, None, count_by, Option, ◌==◌, slice_index, slice_index_or}
use Rattle.std.specs.List.{AllByRecursion}
use Rattle.sources.specs.Supplies.{Supply}
use Rattle.filter.specs.declared.phase.Phase.TheVariants.{Weighed}
use Rattle.filter.specs.Filters.{PathOf, Filter}
use Rattle.filter.specs.Uses.{all_paths, live}
use Rattle.filter.specs.Steps.{path}
use Rattle.cloud.specs.declared.node.Node.{Node}
use Rattle.cloud.specs.Representations.{View}

-- a node in use: its state, and the node before it if there is one
pub record Seen (S : Type 0) : Type 0 where
  pub state : S
  pub parent : Option ℕ

-- what is seen of a node: nothing where nothing hangs on it, as it is not in use
abbrev pub seen : {S : Type 0} → Node S → Option (Seen S)
seen x = cond (x.count == 0) None (Some (record { state = x.state; parent = x.parent }))

-- what is seen of node n
abbrev pub seen_at : {S : Type 0} → List (Node S) → ℕ → Option (Seen S)
seen_at xs n = slice_index_or (map seen xs) n None

-- how many nodes are in use
abbrev pub nodes_in_use : {S : Type 0} → List (Node S) → ℕ
nodes_in_use xs = count_by is_some (map seen xs)

-- each pair of the path has a node, with its state and the node of the pair before it, if there is one
abbrev pub OnNodes : {S : Type 0} → List (Node S) → (ℕ → ℕ) → PathOf S → Type 0
OnNodes xs node [] = ⊥
OnNodes xs node (x ∷ []) = seen_at xs (node x.serial) ≡ Some (record { state = x.state; parent = None })
OnNodes xs node (y ∷ x ∷ p) = (seen_at xs (node y.serial) ≡ Some (record { state = y.state; parent = Some (node x.serial) })) × OnNodes xs node (x ∷ p)

-- n is the node of the newest pair of the path
abbrev pub Newest : {S : Type 0} → (ℕ → ℕ) → ℕ → PathOf S → Type 0
Newest node n [] = ⊥
Newest node n (x ∷ p) = n ≡ node x.serial

-- the place is closed in both, or open at the newest node of the path
abbrev pub SamePlace : {S : Type 0} → (ℕ → ℕ) → Option ℕ → Option (PathOf S) → Type 0
SamePlace node None None = Unit {0}
SamePlace node None (Some p) = ⊥
SamePlace node (Some n) None = ⊥
SamePlace node (Some n) (Some p) = Newest node n p

-- the cloud shows the filter: node gives each serial in use its node
pub record Shows {S : Type 0} (node : ℕ → ℕ) (v : View S) (q : Supply) (f : Filter S) : Type 0 where
  -- the nodes in use are those on the path of a particle or of an open hold, and no others
  pub every_path_is_on_nodes : AllByRecursion (OnNodes v.nodes node) (all_paths f)
  pub each_serial_has_its_own_node : (a b : ℕ) → live a f ≡ true → live b f ≡ true → node a ≡ node b → a ≡ b
  pub no_other_node_is_in_use : (n : ℕ) (x : Seen S) → seen_at v.nodes n ≡ Some x → (s : ℕ) × (live s f ≡ true) × (node s ≡ n)
  -- particles and holds have the newest nodes of their paths
  pub as_many_particles : length f.paths ≡ length v.tips
  pub particles : (i : ℕ) → i < length v.tips → Newest node (slice_index v.tips i) (path f i)
  pub sixteen_places : length v.holds ≡ 16
  pub places : (j : ℕ) → j < 16 → SamePlace node (slice_index_or v.holds j None) (slice_index_or f.places j None)
  -- and the rest is the filter's
  pub phase : f.phase ≡ v.phase
  pub round : f.round ≡ v.round
  pub stamp : f.stamp ≡ v.stamp
  pub room : f.room ≡ length v.nodes
  pub weights : v.phase ≡ Weighed → f.weights ≡ v.weights
  pub source : f.source ≡ q
