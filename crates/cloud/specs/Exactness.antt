-- Which nodes of the ancestry tree are in use. Assumes nothing.
use Rattle.std.specs.Prelude.{ℕ, ◌<◌, List, length, Some, Option}
use Rattle.cloud.specs.Links.{Link, link_at}
use Rattle.cloud.specs.Trees.{Chain, Tree, occurrences}

-- n lies on a path: on the parents' way from a node that a particle or a hold names
abbrev pub OnPath : List Link → (ℕ → ℕ) → ℕ → Type 0
OnPath ls w n = (r : ℕ) × (p : List ℕ) × (0 < w r) × Chain ls (Some r) p × (0 < occurrences n p)

-- the nodes in use are exactly those on a path
abbrev pub Exact : List Link → (ℕ → ℕ) → Type 0
Exact ls w = (n : ℕ) → n < length ls → (0 < (link_at ls n).count → OnPath ls w n) × (OnPath ls w n → 0 < (link_at ls n).count)

abbrev pub TreesAreExact : Type 0
TreesAreExact = (ls : List Link) (head : Option ℕ) (free : ℕ) (w serial : ℕ → ℕ) (issued : ℕ) → Tree ls head free w serial issued → Exact ls w
