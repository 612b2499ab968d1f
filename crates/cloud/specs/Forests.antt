-- The ancestry tree that lent nodes make. Assumes nothing.
use Rattle.std.specs.Prelude.{ℕ, ◌+◌, List, sum_by}
use Rattle.cloud.specs.declared.forest.Forest.{Forest}
use Rattle.cloud.specs.Links.{Link, links, states}
use Rattle.cloud.specs.Trees.{Tree, is_node, SomeTree, SomeTreeAt, SomeTreeAll}
use Rattle.cloud.specs.Tracks.{Inverse, SomeMap, SomeMapAll, SomeTreeFew, Born, Moved}

abbrev pub links_of : {S : Type 0} → Forest S → List Link
links_of f = links f.nodes.now

abbrev pub states_of : {S : Type 0} → Forest S → List S
states_of f = states f.nodes.now

-- the nodes are a tree, by how many name each, by their serials and by how many were issued
abbrev pub IsTree : {S : Type 0} → Forest S → (ℕ → ℕ) → (ℕ → ℕ) → ℕ → Type 0
IsTree f w serial issued = Tree (links_of f) f.head f.free w serial issued

-- the nodes are some tree
abbrev pub HasTree : {S : Type 0} → Forest S → Type 0
HasTree f = SomeTree (links_of f) f.head f.free

-- the nodes are some tree in which something names the node
abbrev pub HasTreeAt : {S : Type 0} → Forest S → ℕ → Type 0
HasTreeAt f node = SomeTreeAt (links_of f) f.head f.free node

-- the nodes are some tree in which things name each node of a list
abbrev pub HasTreeAll : {S : Type 0} → Forest S → List ℕ → Type 0
HasTreeAll f ns = SomeTreeAll (links_of f) f.head f.free ns

-- the nodes are some tree with a map from serials to nodes
abbrev pub HasMap : {S : Type 0} → Forest S → Type 0
HasMap f = SomeMap (links_of f) f.head f.free

-- and things name each node of a list
abbrev pub HasMapAll : {S : Type 0} → Forest S → List ℕ → Type 0
HasMapAll f ns = SomeMapAll (links_of f) f.head f.free ns

-- the nodes are some tree in which things name each node of a list, and few other things name any node
abbrev pub HasTreeFew : {S : Type 0} → Forest S → List ℕ → Type 0
HasTreeFew f ns = SomeTreeFew (links_of f) f.head f.free ns

-- whatever tree the nodes were, those of the row were issued besides, with no parent, and their states are news
abbrev pub Births : {S : Type 0} → Forest S → Forest S → List ℕ → (ℕ → S) → Type 0
Births f g row news =
    (w serial node : ℕ → ℕ) (issued : ℕ) → IsTree f w serial issued → Inverse (links_of f) serial node
    → Born (links_of f) (links_of g) (states_of f) (states_of g) g.head g.free row news w serial node issued

-- whatever tree the nodes were, in which things name the tips, the first i of these paths are longer by a node with a new state
abbrev pub Longer : {S : Type 0} → Forest S → Forest S → List ℕ → List ℕ → (ℕ → S → S) → ℕ → Type 0
Longer f g tips row news i =
    (w serial node : ℕ → ℕ) (issued : ℕ) → IsTree f (λ k. w k + sum_by (is_node k) tips) serial issued → Inverse (links_of f) serial node
    → Moved (links_of f) (links_of g) (states_of f) (states_of g) g.head g.free tips row news i w serial node issued
