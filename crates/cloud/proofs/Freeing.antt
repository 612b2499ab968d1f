-- All nodes made free are a tree.
use Rattle.std.proofs.Common.{◌≡◌, ℕ, zero, suc, ◌+◌, ◌<◌, ◌≤◌, ◌≢◌, List, [], ◌∷◌, length, set, Some, None, Option, sym, refl, ap, subst, ⊎_elim, add-one, arith}
use Rattle.std.proofs.lemmas.List.{length-set}
use Rattle.std.proofs.lemmas.Bool.{cases_eq}
use Rattle.cloud.specs.Links.{linked, Link, link_at}
use Rattle.cloud.specs.Trees.{is_node, occurrences, is_used, is_child, Chain, Tree}
use Rattle.cloud.proofs.Tallies.{is_node_same, is_node_other, is_used_free, is_child_free, all_zero}
use Rattle.cloud.proofs.Links.{link_at_same, link_at_cases}
use Rattle.cloud.proofs.Trees.{chain_set}

-- n - 1 down to 0
abbrev pub numbers_down : ℕ → List ℕ
numbers_down zero = []
numbers_down (suc n) = n ∷ numbers_down n

pub occurrences_above : (m n : ℕ) → m ≤ n → occurrences n (numbers_down m) ≡ 0
occurrences_above zero n h = refl
occurrences_above (suc m) n h = let ne : n ≢ m = omega arith in omega (arith, is_node_other n m ne, occurrences_above m n (omega arith))

pub occurrences_below : (m n : ℕ) → n < m → occurrences n (numbers_down m) ≡ 1
occurrences_below zero n h = absurd (omega arith)
occurrences_below (suc m) n h =
    ⊎_elim
    (λ e. let s : is_node n m ≡ 1 = subst (λ k. is_node n k ≡ 1) e (is_node_same n) in omega (arith, s, occurrences_above m n (omega arith)))
    (λ ne. omega (arith, is_node_other n m ne, occurrences_below m n (omega arith)))
    (cases_eq n m)

pub length-numbers_down : (m : ℕ) → length (numbers_down m) ≡ m
length-numbers_down zero = refl
length-numbers_down (suc m) = ap suc (length-numbers_down m)

-- the nodes below i are free, and listed from i - 1 down to 0
pub AllFree : List Link → Option ℕ → ℕ → Type 0
AllFree ls head i = Chain ls head (numbers_down i) × ((k : ℕ) → k < i → (link_at ls k).count ≡ 0)

pub all_free_more : (ls ms : List Link) (head : Option ℕ) (i : ℕ) → i < length ls → ms ≡ set ls i (linked 0 head) → AllFree ls head i → AllFree ms (Some i) (i + 1)
unfolding AllFree
all_free_more ls ms head i h e f =
    let y : Link = linked 0 head in
    let len : length (set ls i y) ≡ length ls = length-set ls i y in
    let ch : Chain (set ls i y) (Some i) (numbers_down (suc i)) = (refl, omega arith, subst (λ x. Chain (set ls i y) x.parent (numbers_down i)) (sym (link_at_same ls i y h)) (chain_set ls head (numbers_down i) i y (occurrences_above i i (omega arith)) f.0)) in
    let all : (k : ℕ) → k < i + 1 → (link_at (set ls i y) k).count ≡ 0
    = λ k l. link_at_cases ls i y k h (λ x. x.count ≡ 0) (λ _. refl) (λ ne. f.1 k (omega arith)) in
    subst (λ us. Chain us (Some i) (numbers_down (i + 1)) × ((k : ℕ) → k < i + 1 → (link_at us k).count ≡ 0)) (sym e) (rw add-one ch, all)

pub all_free_tree : (ls : List Link) (head : Option ℕ) (n : ℕ) (serial : ℕ → ℕ) → length ls ≡ n → n ≤ 65536 → AllFree ls head n → Tree ls head n (λ _. 0) serial 0
unfolding AllFree
all_free_tree ls head n serial e small f =
    let dead : (k : ℕ) → k < length ls → (link_at ls k).count ≡ 0 = λ k l. f.1 k (omega arith) in
    record {
      few = omega arith;
      free_list = numbers_down n;
      chain = f.0;
      size = length-numbers_down n;
      listed = λ k l. let a = is_used_free (link_at ls k) (dead k l) in let o = occurrences_below n k (omega arith) in omega (arith, a, o);
      whole = let z = all_zero is_used ls (λ k l. is_used_free (link_at ls k) (dead k l)) in omega (arith, z);
      counts = λ k l. let z = all_zero (is_child k) ls (λ j m. is_child_free k (link_at ls j) (dead j m)) in omega (arith, z, dead k l);
      inside = λ k l. refl;
      older = λ m p l q b. absurd (omega (arith, dead m l));
      past = λ m l q. absurd (omega (arith, dead m l));
      apart = λ m k l l2 q q2 b. absurd (omega (arith, dead m l));
    }

pub all_free_none : (ls : List Link) → AllFree ls None 0
unfolding AllFree
all_free_none ls = (refl, λ k l. absurd (omega arith))
