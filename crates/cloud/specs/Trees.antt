-- The ancestry tree over its links, with the list of its free nodes. Assumes nothing.
use Rattle.std.specs.Prelude.{◌≡◌, ℕ, ◌+◌, ◌<◌, ◌≤◌, cond, List, [], ◌∷◌, length, Some, None, sum_by, Option, ◌==◌}
use Rattle.cloud.specs.Links.{Link, link_at}

-- 1 where n and i are one node
unfoldable pub is_node : ℕ → ℕ → ℕ
is_node n i = cond (n == i) 1 0

-- 1 where n is the node that is named, if any is
abbrev pub is_named : Option ℕ → ℕ → ℕ
is_named None n = 0
is_named (Some p) n = is_node n p

-- 1 where a node is named
abbrev pub how_many : Option ℕ → ℕ
how_many None = 0
how_many (Some p) = 1

-- 1 where the node is in use
unfoldable pub is_used : Link → ℕ
is_used l = cond (l.count == 0) 0 1

-- 1 where the node is in use and n is its parent
unfoldable pub is_child : ℕ → Link → ℕ
is_child n l = cond (l.count == 0) 0 (is_named l.parent n)

-- how often n stands in a list
abbrev pub occurrences : ℕ → List ℕ → ℕ
occurrences n [] = 0
occurrences n (x ∷ xs) = is_node n x + occurrences n xs

-- the serials, with k at node f
unfoldable pub with_serial : (ℕ → ℕ) → ℕ → ℕ → ℕ → ℕ
with_serial serial f k n = cond (n == f) k (serial n)

-- from o, if it names a node, the parents lead through these nodes, and then to none
abbrev pub Chain : List Link → Option ℕ → List ℕ → Type 0
Chain ls o [] = o ≡ None
Chain ls o (n ∷ ns) = (o ≡ Some n) × (n < length ls) × Chain ls (link_at ls n).parent ns

-- The tree: w n is how many particles and open holds name node n, serial n is how many nodes were issued before n, and
-- so many were issued in all.
pub record Tree (ls : List Link) (head : Option ℕ) (free : ℕ) (w serial : ℕ → ℕ) (issued : ℕ) : Type 0 where
  pub few : length ls ≤ 65536
  -- the free nodes, from the head on: each node is in use, or in this list once
  pub free_list : List ℕ
  pub chain : Chain ls head free_list
  pub size : length free_list ≡ free
  pub listed : (n : ℕ) → n < length ls → occurrences n free_list + is_used (link_at ls n) ≡ 1
  pub whole : sum_by is_used ls + free ≡ length ls
  -- a node's count is what hangs on it
  pub counts : (n : ℕ) → n < length ls → (link_at ls n).count ≡ w n + sum_by (is_child n) ls
  pub inside : (n : ℕ) → length ls ≤ n → w n ≡ 0
  -- parents are older, and serials tell nodes in use apart
  pub older : (m p : ℕ) → m < length ls → 0 < (link_at ls m).count → (link_at ls m).parent ≡ Some p → (p < length ls) × (serial p < serial m)
  pub past : (m : ℕ) → m < length ls → 0 < (link_at ls m).count → serial m < issued
  pub apart : (m n : ℕ) → m < length ls → n < length ls → 0 < (link_at ls m).count → 0 < (link_at ls n).count → serial m ≡ serial n → m ≡ n

-- there is a tree with so many free nodes
abbrev pub SomeTree : List Link → Option ℕ → ℕ → Type 0
SomeTree ls head free = ∥ ((w : ℕ → ℕ) × (serial : ℕ → ℕ) × (issued : ℕ) × Tree ls head free w serial issued) ∥₁

-- there is one in which a particle or a hold names the node
abbrev pub SomeTreeAt : List Link → Option ℕ → ℕ → ℕ → Type 0
SomeTreeAt ls head free node = ∥ ((w : ℕ → ℕ) × (serial : ℕ → ℕ) × (issued : ℕ) × Tree ls head free (λ n. w n + is_node n node) serial issued) ∥₁

-- there is one, however many nodes are free, in which a particle or a hold names the node of o, if there is one
abbrev pub SomeTreeFrom : List Link → Option ℕ → Option ℕ → Type 0
SomeTreeFrom ls head o = ∥ ((free : ℕ) × (w : ℕ → ℕ) × (serial : ℕ → ℕ) × (issued : ℕ) × Tree ls head free (λ n. w n + is_named o n) serial issued) ∥₁

-- there is one in which particles and holds name each node of a list
abbrev pub SomeTreeAll : List Link → Option ℕ → ℕ → List ℕ → Type 0
SomeTreeAll ls head free ns = ∥ ((w : ℕ → ℕ) × (serial : ℕ → ℕ) × (issued : ℕ) × Tree ls head free (λ k. w k + sum_by (is_node k) ns) serial issued) ∥₁
