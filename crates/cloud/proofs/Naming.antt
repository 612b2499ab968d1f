-- What particles and holds name.
use Rattle.std.proofs.Common.{◌≡◌, ℕ, ◌+◌, ◌<◌, ◌≤◌, List, length, get_or, set, Some, None, sum_by, Option, ap, ◌∙◌, subst, ⊎_elim, arith}
use Rattle.std.proofs.lemmas.List.Sums.{sum_by-set, get_or-le-sum_by}
use Rattle.std.proofs.ByRecursion.{sum_by_le, All-from_get_or}
use Rattle.std.proofs.lemmas.Bool.{cases_eq, cases_lt}
use Rattle.cloud.specs.Links.{Link}
use Rattle.cloud.specs.Trees.{is_node, is_named, is_child}
use Rattle.cloud.specs.Tracks.{named}
use Rattle.cloud.proofs.Tallies.{is_node_same, is_node_other, is_child_used, is_child_free}

pub is_node_le : (n i : ℕ) → is_node n i ≤ 1
is_node_le n i = ⊎_elim (λ e. let s : is_node n i ≡ 1 = subst (λ k. is_node n k ≡ 1) e (is_node_same n) in omega arith) (λ ne. omega (arith, is_node_other n i ne)) (cases_eq n i)

pub is_named_le : (o : Option ℕ) (n : ℕ) → is_named o n ≤ 1
is_named_le None n = omega arith
is_named_le (Some p) n = is_node_le n p

pub is_child_le : (n : ℕ) (l : Link) → is_child n l ≤ 1
is_child_le n l = ⊎_elim (λ p. omega (arith, is_child_used n l p, is_named_le l.parent n)) (λ z. let e : l.count ≡ 0 = omega arith in omega (arith, is_child_free n l e)) (cases_lt 0 l.count)

pub few_by : {X : Type 0} (f : X → ℕ) (d : X) → ((x : X) → f x ≤ 1) → (xs : List X) → sum_by f xs ≤ length xs
few_by f d h xs = let b = sum_by_le f 1 xs (All-from_get_or (λ x. f x ≤ 1) xs d (λ i l. h (get_or xs i d))) in omega arith

-- a particle names its node
pub particle_named : (ps : List ℕ) (holds : List (Option ℕ)) (i : ℕ) → i < length ps → 0 < named ps holds (get_or ps i 0)
particle_named ps holds i l = omega (arith, get_or-le-sum_by (is_node (get_or ps i 0)) ps i 0 l, is_node_same (get_or ps i 0))

-- a place of the holds written
pub named_set : (ps : List ℕ) (holds : List (Option ℕ)) (p : ℕ) (o : Option ℕ) (k : ℕ) → p < length holds → named ps (set holds p o) k + is_named (get_or holds p None) k ≡ named ps holds k + is_named o k
named_set ps holds p o k h = omega (arith, sum_by-set (λ x. is_named x k) holds p o None h)

-- an open place names its node
pub place_named : (ps : List ℕ) (holds : List (Option ℕ)) (q node : ℕ) → q < length holds → get_or holds q None ≡ Some node → 0 < named ps holds node
place_named ps holds q node l e =
    let o : is_named (get_or holds q None) node ≡ 1 = ap (λ x. is_named x node) e ∙ is_node_same node in
    omega (arith, get_or-le-sum_by (λ x. is_named x node) holds q None l, o)
