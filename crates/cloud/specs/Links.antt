-- A node's link, which is its parent and its count, apart from its state. Assumes nothing.
use Rattle.std.specs.Prelude.{◌≡◌, ℕ, ◌+◌, ◌<◌, List, map, None, Option, slice_index_or}
use Rattle.cloud.specs.declared.node.Node.{Node}

pub record Link : Type 0 where
  -- what hangs on the node: the nodes whose parent it is, the particles and the open holds; 0 for a free node
  pub count : ℕ
  -- the parent, if there is one; the next free node, for a free one
  pub parent : Option ℕ

abbrev pub linked : ℕ → Option ℕ → Link
linked c p = record { count = c; parent = p }

-- one thing more hangs on the node
abbrev pub raised : Link → Link
raised l = linked (l.count + 1) l.parent

abbrev pub link : {S : Type 0} → Node S → Link
link x = record { count = x.count; parent = x.parent }

abbrev pub links : {S : Type 0} → List (Node S) → List Link
links xs = map link xs

abbrev pub states : {S : Type 0} → List (Node S) → List S
states xs = map (λ x. x.state) xs

-- what stands where there is no node
abbrev pub no_link : Link
no_link = record { count = 0; parent = None }

abbrev pub link_at : List Link → ℕ → Link
link_at ls n = slice_index_or ls n no_link

-- what is in use after was in use before, with the same parent
abbrev pub Kept : List Link → List Link → Type 0
Kept ls ms = (n : ℕ) → 0 < (link_at ms n).count → (0 < (link_at ls n).count) × ((link_at ms n).parent ≡ (link_at ls n).parent)

-- the nodes have their states as before, and what is in use was in use before, with the same parent
pub record Keeps {S : Type 0} (xs ys : List (Node S)) : Type 0 where
  pub same_states : states ys ≡ states xs
  pub same_parents : Kept (links xs) (links ys)
