-- What is seen of a node, by its link and its state.
use Rattle.std.proofs.Common.{◌≡◌, ℕ, zero, suc, ◌+◌, ◌<◌, cond, List, [], ◌∷◌, map, length, get_or, is_some, Some, None, sum_by, sym, refl, ap, ◌∙◌, inl, inr, ⊎_elim, arith}
use Rattle.std.proofs.lemmas.List.Sums.{sum_by-cons}
use Rattle.std.proofs.lemmas.Bool.Decides.{eqb_tells}
use Rattle.std.proofs.lemmas.Bool.{cases_lt, eq-eqb, ne_eqb}
use Rattle.cloud.specs.declared.node.Node.{Node}
use Rattle.cloud.specs.Links.{link, links, states, link_at}
use Rattle.cloud.specs.Trees.{is_used}
use Rattle.cloud.specs.Seen.{Seen, seen, seen_at, nodes_in_use}

-- nothing is seen of a node that is not in use
pub seen_free : {S : Type 0} (xs : List (Node S)) (n : ℕ) → (link_at (links xs) n).count ≡ 0 → seen_at xs n ≡ None
seen_free [] n e = refl
seen_free (x ∷ xs) zero e = rw (eq-eqb x.count 0 e)
seen_free (x ∷ xs) (suc n) e = seen_free xs n e

-- of a node in use its state and its parent are seen
pub seen_used : {S : Type 0} (xs : List (Node S)) (n : ℕ) (s : S) → 0 < (link_at (links xs) n).count → ((d : S) → get_or (states xs) n d ≡ s)
    → seen_at xs n ≡ Some (record { state = s; parent = (link_at (links xs) n).parent })
seen_used [] n s h e = absurd (omega arith)
seen_used (x ∷ xs) zero s h e = rw (ne_eqb x.count 0 (λ z. omega arith)) (ap (λ y. Some (record { state = y; parent = x.parent })) (e x.state))
seen_used (x ∷ xs) (suc n) s h e = seen_used xs n s h e

-- what is seen is a node in use
pub seen_live : {S : Type 0} (xs : List (Node S)) (n : ℕ) (x : Seen S) → seen_at xs n ≡ Some x → (n < length (links xs)) × (0 < (link_at (links xs) n).count)
seen_live [] n x e = absurd (let z : ◌≡◌ {A = ℕ} 0 1 = cc in omega arith)
seen_live (y ∷ xs) zero x e =
    (omega arith, ⊎_elim (λ l. l) (λ l. let f = seen_free (y ∷ xs) zero (omega arith) in absurd (let z : ◌≡◌ {A = ℕ} 0 1 = cc in omega arith)) (cases_lt 0 y.count))
seen_live (y ∷ xs) (suc n) x e = let r = seen_live xs n x e in (omega (arith, r.0), r.1)

one_seen : {S : Type 0} (x : Node S) → cond (is_some (seen x)) 1 0 ≡ is_used (link x)
unfolding is_used
one_seen x = elim (eqb_tells x.count 0) [ inl q ↦ rw q.0 | inr q ↦ rw q.0 ]

-- as many nodes are seen as are in use
pub seen_count : {S : Type 0} (xs : List (Node S)) → nodes_in_use xs ≡ sum_by is_used (links xs)
seen_count [] = refl
seen_count (x ∷ xs) = sum_by-cons (λ o. cond (is_some o) 1 0) (seen x) (map seen xs) ∙ (λ j. one_seen x j + seen_count xs j) ∙ sym (sum_by-cons is_used (link x) (links xs))
