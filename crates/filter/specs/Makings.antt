-- The nodes that the turns of a run made, and the numbers drawn for them. Assumes nothing.
use Rattle.std.specs.Prelude.{◌≡◌, ℕ, ◌+◌, ◌<◌, ◌↔◌, List, [], ◌∷◌}
use Rattle.std.specs.List.{AllByRecursion}
use Rattle.filter.specs.Calls.{Call}
use Rattle.filter.specs.Replies.{told_issued}
use Rattle.filter.specs.Runs.{Turn, all_issued, all_drawn}

-- what a turn made: node i, for i below the count, has the serial that is i after the first, and the draw that is i after the first.
-- A draw goes by its place among all numbers drawn since the maker
pub record Making : Type 0 where
  pub call : Call
  pub count : ℕ
  pub first_serial : ℕ
  pub first_draw : ℕ

-- what a turn made after the run before it
abbrev pub making : Turn → List Turn → Making
making t ts = record { call = t.call; count = told_issued t.told; first_serial = all_issued ts; first_draw = all_drawn ts }

-- what each turn of the run made; a turn that issued no node made none
abbrev pub makings : List Turn → List Making
makings [] = []
makings (t ∷ ts) = making t ts ∷ makings ts

-- a node of g and a node of h have one draw exactly if they are one node
abbrev pub Apart : Making → Making → Type 0
Apart g h = (i j : ℕ) → i < g.count → j < h.count → (g.first_draw + i ≡ h.first_draw + j) ↔ (g.first_serial + i ≡ h.first_serial + j)

-- no draw serves two nodes, and no node has two draws
abbrev pub AllApart : List Making → Type 0
AllApart gs = AllByRecursion (λ g. AllByRecursion (Apart g) gs) gs
