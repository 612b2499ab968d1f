-- A path of the reference filter, read off the links and states of the ancestry tree. Assumes nothing.
use Rattle.std.specs.Prelude.{◌≡◌, ℕ, ◌+◌, ◌<◌, ◌≤◌, List, [], ◌∷◌, length, Some, None, sum_by, Option, slice_index, slice_index_or}
use Rattle.filter.specs.Filters.{Pair, PathOf}
use Rattle.cloud.specs.Links.{Link, link_at}
use Rattle.cloud.specs.Trees.{Tree, is_node, is_named}

-- from o, if it names a node, the parents lead through the states and serials of the path, and then to none
abbrev pub Track : {S : Type 0} → List Link → List S → (ℕ → ℕ) → Option ℕ → PathOf S → Type 0
Track ls ss serial o [] = o ≡ None
Track {S} ls ss serial o (x ∷ p) =
    (n : ℕ) × (o ≡ Some n) × (n < length ls) × (serial n ≡ x.serial) × ((d : S) → slice_index_or ss n d ≡ x.state) × Track ls ss serial (link_at ls n).parent p

-- how many particles, and how many open holds, name node k
abbrev pub named : List ℕ → List (Option ℕ) → ℕ → ℕ
named tips holds k = sum_by (is_node k) tips + sum_by (λ o. is_named o k) holds

-- what o names, if anything, is named by a particle or a hold
abbrev pub IsNamed : (ℕ → ℕ) → Option ℕ → Type 0
IsNamed w o = (r : ℕ) → o ≡ Some r → 0 < w r

-- node takes the serial of each node in use back to that node
abbrev pub Inverse : List Link → (ℕ → ℕ) → (ℕ → ℕ) → Type 0
Inverse ls serial node = (k : ℕ) → k < length ls → 0 < (link_at ls k).count → node (serial k) ≡ k

-- some tree with a map from serials to nodes
abbrev pub SomeMap : List Link → Option ℕ → ℕ → Type 0
SomeMap ls head free = ∥ ((w : ℕ → ℕ) × (serial : ℕ → ℕ) × (node : ℕ → ℕ) × (issued : ℕ) × Tree ls head free w serial issued × Inverse ls serial node) ∥₁

-- some tree with a map from serials to nodes, in which things name each node of a list
abbrev pub SomeMapAll : List Link → Option ℕ → ℕ → List ℕ → Type 0
SomeMapAll ls head free ns =
    ∥ ((w : ℕ → ℕ) × (serial : ℕ → ℕ) × (node : ℕ → ℕ) × (issued : ℕ) × Tree ls head free (λ k. w k + sum_by (is_node k) ns) serial issued × Inverse ls serial node) ∥₁

-- some tree in which things name each node of a list, and few other things name any node
abbrev pub SomeTreeFew : List Link → Option ℕ → ℕ → List ℕ → Type 0
SomeTreeFew ls head free ns =
    ∥ ((w : ℕ → ℕ) × (serial : ℕ → ℕ) × (issued : ℕ) × Tree ls head free (λ k. w k + sum_by (is_node k) ns) serial issued × ((k : ℕ) → w k ≤ 65536)) ∥₁

-- i nodes were issued, numbered from issued on; names says what names each node then, and what w names keeps its path
pub record Grown {S : Type 0} (ls ms : List Link) (ss ts : List S) (head : Option ℕ) (free : ℕ) (names : ℕ → ℕ) (i : ℕ) (w serial node : ℕ → ℕ) (issued : ℕ) : Type 0 where
  pub serial' : ℕ → ℕ
  pub node' : ℕ → ℕ
  pub size : length ms ≡ length ls
  pub tree : Tree ms head free names serial' (issued + i)
  pub inverse : Inverse ms serial' node'
  pub older : (s : ℕ) → s < issued → node' s ≡ node s
  pub fresh : (s : ℕ) → issued ≤ s → s < issued + i → (link_at ls (node' s)).count ≡ 0
  pub grows : (k : ℕ) → 0 < (link_at ls k).count → 0 < (link_at ms k).count
  pub stays : (o : Option ℕ) (p : PathOf S) → IsNamed w o → Track ls ss serial o p → Track ms ts serial' o p

-- the nodes of the row were issued with no parent, one after another, and their states are news
pub record Born {S : Type 0} (ls ms : List Link) (ss ts : List S) (head : Option ℕ) (free : ℕ) (row : List ℕ) (news : ℕ → S) (w serial node : ℕ → ℕ) (issued : ℕ) : Type 0 where
  pub grown : Grown ls ms ss ts head free (λ k. w k + sum_by (is_node k) row) (length row) w serial node issued
  pub born : (j : ℕ) → j < length row → Track ms ts grown.serial' (Some (slice_index row j)) (record { state = news j; serial = issued + j } ∷ [])

-- the first i of the paths whose newest nodes were tips are longer by a node; the row has their newest nodes, and news the new states
pub record Moved {S : Type 0} (ls ms : List Link) (ss ts : List S) (head : Option ℕ) (free : ℕ) (tips row : List ℕ) (news : ℕ → S → S) (i : ℕ) (w serial node : ℕ → ℕ) (issued : ℕ) : Type 0 where
  pub grown : Grown ls ms ss ts head free (λ k. w k + sum_by (is_node k) row) i w serial node issued
  pub longer : (j : ℕ) (x : Pair S) (p : PathOf S) → j < i → Track ls ss serial (Some (slice_index tips j)) (x ∷ p) → Track ms ts grown.serial' (Some (slice_index row j)) (record { state = news j x.state; serial = issued + j } ∷ x ∷ p)
  pub ahead : (j : ℕ) (p : PathOf S) → i ≤ j → j < length row → Track ls ss serial (Some (slice_index tips j)) p → Track ms ts grown.serial' (Some (slice_index row j)) p
