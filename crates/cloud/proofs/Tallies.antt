-- The numbers 0 and 1 that say which node is meant, whether it is in use, and whose child it is.
use Rattle.std.proofs.Common.{◌≡◌, ℕ, suc, ◌+◌, ◌<◌, ◌≤◌, ◌≢◌, List, [], ◌∷◌, length, get_or, set, Some, None, sum_by, Option, sym, refl, ap, ⊎_elim, arith}
use Rattle.std.proofs.lemmas.List.Sums.{sum_by-set, sum_by-cons}
use Rattle.std.proofs.ByRecursion.{sum_by_le, All-from_get_or}
use Rattle.std.proofs.lemmas.Bool.{eq-eqb, ne_eqb, cases_eq, cases_lt}
use Rattle.cloud.specs.Links.{linked, Link, no_link, link_at}
use Rattle.cloud.specs.Trees.{how_many, is_node, is_named, is_used, is_child, with_serial}

pub is_node_same : (n : ℕ) → is_node n n ≡ 1
unfolding is_node
is_node_same n = rw (eq-eqb n n refl)

pub is_node_other : (n i : ℕ) → n ≢ i → is_node n i ≡ 0
unfolding is_node
is_node_other n i h = rw (ne_eqb n i h)

pub is_used_free : (l : Link) → l.count ≡ 0 → is_used l ≡ 0
unfolding is_used
is_used_free l h = rw (eq-eqb l.count 0 h)

pub is_used_used : (l : Link) → 0 < l.count → is_used l ≡ 1
unfolding is_used
is_used_used l h = rw (ne_eqb l.count 0 (λ e. omega arith))

pub is_child_free : (n : ℕ) (l : Link) → l.count ≡ 0 → is_child n l ≡ 0
unfolding is_child
is_child_free n l h = rw (eq-eqb l.count 0 h)

pub is_child_used : (n : ℕ) (l : Link) → 0 < l.count → is_child n l ≡ is_named l.parent n
unfolding is_child
is_child_used n l h = rw (ne_eqb l.count 0 (λ e. omega arith))

pub with_serial_same : (serial : ℕ → ℕ) (f k : ℕ) → with_serial serial f k f ≡ k
unfolding with_serial
with_serial_same serial f k = rw (eq-eqb f f refl)

pub with_serial_other : (serial : ℕ → ℕ) (f k n : ℕ) → n ≢ f → with_serial serial f k n ≡ serial n
unfolding with_serial
with_serial_other serial f k n h = rw (ne_eqb n f h)

pub free_from_is_used : (l : Link) → is_used l ≡ 0 → l.count ≡ 0
free_from_is_used l h = ⊎_elim (λ e. e) (λ ne. let p : 0 < l.count = omega arith in omega (arith, is_used_used l p)) (cases_eq l.count 0)

pub is_named_other : (b : Option ℕ) (n : ℕ) → ((p : ℕ) → b ≡ Some p → n ≢ p) → is_named b n ≡ 0
is_named_other None n h = refl
is_named_other (Some p) n h = is_node_other n p (h p refl)

-- how many nodes are in use, after a write at one
pub used_kept : (ls ms : List Link) (i c : ℕ) (b : Option ℕ) → i < length ls → 0 < (link_at ls i).count → 0 < c → ms ≡ set ls i (linked c b) → sum_by is_used ms + 0 ≡ sum_by is_used ls
used_kept ls ms i c b h pos pos' e = let s = sum_by-set is_used ls i (linked c b) no_link h in omega (arith, s, ap (sum_by is_used) e, is_used_used (link_at ls i) pos, is_used_used (linked c b) pos')

pub used_less : (ls ms : List Link) (i : ℕ) (b : Option ℕ) → i < length ls → 0 < (link_at ls i).count → ms ≡ set ls i (linked 0 b) → sum_by is_used ms + 1 ≡ sum_by is_used ls
used_less ls ms i b h pos e = let s = sum_by-set is_used ls i (linked 0 b) no_link h in omega (arith, s, ap (sum_by is_used) e, is_used_used (link_at ls i) pos, is_used_free (linked 0 b) refl)

pub how_many_le : (o : Option ℕ) → how_many o ≤ 1
how_many_le None = omega arith
how_many_le (Some p) = omega arith

is_used_le : (l : Link) → is_used l ≤ 1
is_used_le l = ⊎_elim (λ e. omega (arith, is_used_free l e)) (λ ne. let p : 0 < l.count = omega arith in omega (arith, is_used_used l p)) (cases_eq l.count 0)

-- no more nodes are in use than there are
pub used_le : (ls : List Link) → sum_by is_used ls ≤ length ls
used_le ls = let b = sum_by_le is_used 1 ls (All-from_get_or (λ l. is_used l ≤ 1) ls no_link (λ i h. is_used_le (get_or ls i no_link))) in omega arith

pub all_zero : (f : Link → ℕ) (ls : List Link) → ((i : ℕ) → i < length ls → f (link_at ls i) ≡ 0) → sum_by f ls ≡ 0
all_zero f ls h = let b = sum_by_le f 0 ls (All-from_get_or (λ l. f l ≤ 0) ls no_link (λ i l. omega (arith, h i l))) in omega arith

-- a sum above 0 has an element above 0
pub sum-pick : {X : Type 0} (f : X → ℕ) (d : X) (xs : List X) → 0 < sum_by f xs → (m : ℕ) × (m < length xs) × (0 < f (get_or xs m d))
sum-pick f d [] h = absurd (omega arith)
sum-pick f d (x ∷ xs) h =
    ⊎_elim
    (λ l. (0, omega arith, l))
    (λ z. let r = sum-pick f d xs (omega (arith, sum_by-cons f x xs)) in (suc r.0, omega (arith, r.1), r.2))
    (cases_lt 0 (f x))

pub is_node_eq : (n i : ℕ) → 0 < is_node n i → n ≡ i
is_node_eq n i h = ⊎_elim (λ e. e) (λ ne. absurd (omega (arith, is_node_other n i ne))) (cases_eq n i)

pub is_named_eq : (o : Option ℕ) (n : ℕ) → 0 < is_named o n → o ≡ Some n
is_named_eq None n h = absurd (omega arith)
is_named_eq (Some p) n h = ap Some (sym (is_node_eq n p h))
