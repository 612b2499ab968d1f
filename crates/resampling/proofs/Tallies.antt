-- One step of a tally of children. Assumes nothing.
use Rattle.std.proofs.Common.{◌≡◌, ℕ, ◌+◌, ◌<◌, ◌≤◌, true, false, ltb, ◌⊎◌, List, ◌++◌, length, get_or, take, drop, set, replicate, sym, ap, ◌∙◌, inl, inr, arith}
use Rattle.std.proofs.lemmas.List.FromFn.{fill_by_all}
use Rattle.std.proofs.lemmas.List.{get_or_default, get_or-set_same, get_or-set_other, get_or-take, get_or-replicate, take_all, length-take-le, take-append-drop}
use Rattle.std.proofs.lemmas.List.Sums.{count_by_more_yes, count_by_more_no, count_by-le-length, AllPass-from_list_all, list_all-from_AllPass}
use Rattle.std.proofs.lemmas.Bool.{ltb-true, lt-ltb, le-ltb, le-leb, lt-leb, and_from, and_left, and_right, cases_order}
use Rattle.resampling.specs.Calls.{all_below}
use Rattle.resampling.specs.Children.{among, children, children_of_each}

pub below_at : (n : ℕ) (ps : List ℕ) (k : ℕ) → all_below n ps ≡ true → k < length ps → get_or ps k 0 < n
below_at n ps k e h = ltb-true _ _ (AllPass-from_list_all (λ p. ltb p n) ps e k 0 h)

pub below_from : (n : ℕ) (ps : List ℕ) → ((k : ℕ) → k < length ps → get_or ps k 0 < n) → all_below n ps ≡ true
below_from n ps each = list_all-from_AllPass (λ p. ltb p n) ps (λ k d h. lt-ltb _ _ (rw (get_or_default ps k d 0 h) (each k h)))

among_itself : (p : ℕ) → among p (p + 1) p ≡ true
among_itself p = and_from _ _ (le-leb p p (omega arith)) (lt-ltb p (p + 1) (omega arith))

among_other : (i p : ℕ) → (i ≡ p → ⊥) → among i (i + 1) p ≡ false
among_other i p ne = go (cases_order i p)
  where
    go : (i ≡ p) ⊎ ((i < p) ⊎ (p < i)) → among i (i + 1) p ≡ false
    go (inl e) = absurd (ne e)
    go (inr (inl l)) = and_right _ _ (le-ltb p (i + 1) (omega arith))
    go (inr (inr l)) = and_left _ _ (lt-leb i p l)

module _ (ps : List ℕ) (k : ℕ) (h : k < length ps) where
  -- one parent more adds one child to it
  counted_itself : children (take (k + 1) ps) (get_or ps k 0) (get_or ps k 0 + 1) ≡ children (take k ps) (get_or ps k 0) (get_or ps k 0 + 1) + 1
  counted_itself = count_by_more_yes (among (get_or ps k 0) (get_or ps k 0 + 1)) ps k 0 h (among_itself (get_or ps k 0))

  -- and none to any other
  counted_other : (i : ℕ) → (i ≡ get_or ps k 0 → ⊥) → children (take (k + 1) ps) i (i + 1) ≡ children (take k ps) i (i + 1)
  counted_other i ne = count_by_more_no (among i (i + 1)) ps k 0 h (among_other i (get_or ps k 0) ne)

  pub tally_more : (counts : List ℕ) (n p v : ℕ) → p ≡ get_or ps k 0 → p < length counts → v ≡ get_or counts p 0 + 1 → p < n → ((i : ℕ) → i < n → get_or counts i 0 ≡ children (take k ps) i (i + 1))
      → (i : ℕ) → i < n → get_or (set counts p v) i 0 ≡ children (take (k + 1) ps) i (i + 1)
  tally_more counts n p v e room plus inside so_far i hi = go (cases_order i p)
    where
      other : (i ≡ p → ⊥) → get_or (set counts p v) i 0 ≡ children (take (k + 1) ps) i (i + 1)
      other ne = get_or-set_other counts p i v 0 ne ∙ so_far i hi ∙ sym (counted_other i (λ q. ne (q ∙ sym e)))

      go : (i ≡ p) ⊎ ((i < p) ⊎ (p < i)) → get_or (set counts p v) i 0 ≡ children (take (k + 1) ps) i (i + 1)
      go (inl q) =
          ap (λ (x : ℕ). get_or (set counts p v) x 0) q
          ∙ get_or-set_same counts p v 0 room
          ∙ plus
          ∙ ap (λ (x : ℕ). x + 1) (so_far p inside)
          ∙ ap (λ (x : ℕ). children (take k ps) x (x + 1) + 1) e
          ∙ sym counted_itself
          ∙ ap (λ (x : ℕ). children (take (k + 1) ps) x (x + 1)) (sym (q ∙ e))
      go (inr (inl l)) = other (λ q. omega arith)
      go (inr (inr l)) = other (λ q. omega arith)

-- a count is at most as large as the list
pub children_few : (ps : List ℕ) (k i : ℕ) → k ≤ length ps → children (take k ps) i (i + 1) ≤ k
children_few ps k i h = omega (arith, count_by-le-length (among i (i + 1)) (take k ps), length-take-le k ps h)

pub tally_none : (counts : List ℕ) (n : ℕ) → take n counts ≡ replicate n 0 → (i : ℕ) → i < n → get_or counts i 0 ≡ 0
tally_none counts n e i h = sym (get_or-take n counts i 0 h) ∙ ap (λ (l : List ℕ). get_or l i 0) e ∙ get_or-replicate n i 0 0 h

pub tally_all : (ps counts old : List ℕ) (k : ℕ) → length ps ≤ k → length ps ≤ length counts → ((i : ℕ) → i < length ps → get_or counts i 0 ≡ children (take k ps) i (i + 1)) → drop (length ps) counts ≡ drop (length ps) old → counts ≡ children_of_each ps ++ drop (length ps) old
tally_all ps counts old k all room each rest =
    let front : take (length ps) counts ≡ children_of_each ps = fill_by_all (λ i. children ps i (i + 1)) (take (length ps) counts) (length ps) 0 (length-take-le (length ps) counts room) (λ i h. get_or-take (length ps) counts i 0 h ∙ rw (take_all k ps all) at (each i h)) in
    cc (take-append-drop (length ps) counts)

-- what the search uses at a tally
pub ruleset tallies = (below_at, children_few, tally_more, tally_none, tally_all)
