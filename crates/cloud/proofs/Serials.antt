-- As many different serials as nodes in use.
use Rattle.std.proofs.Common.{◌≡◌, ℕ, zero, suc, ◌+◌, ◌<◌, cond, eqb, ◌≢◌, List, [], ◌∷◌, length, sum_by, sym, refl, ◌∙◌, subst, ⊎_elim, arith}
use Rattle.std.proofs.lemmas.List.Sums.{sum_by-cons}
use Rattle.std.proofs.lemmas.Bool.{cases_eq, cases_lt, eq-eqb, ne_eqb}
use Rattle.cloud.specs.Links.{Link, link_at}
use Rattle.cloud.specs.Trees.{is_used}
use Rattle.cloud.specs.Serials.{total, sign, different, SerialsCountNodes}
use Rattle.cloud.proofs.Tallies.{is_used_free, is_used_used}

pub sign_zero : (n : ℕ) → n ≡ 0 → sign n ≡ 0
unfolding sign
sign_zero n e = rw (eq-eqb n 0 e)

pub sign_one : (n : ℕ) → 0 < n → sign n ≡ 1
unfolding sign
sign_one n h = rw (ne_eqb n 0 (λ e. omega arith))

pub total_same : (f g : ℕ → ℕ) (n : ℕ) → ((k : ℕ) → k < n → f k ≡ g k) → total f n ≡ total g n
total_same f g zero h = refl
total_same f g (suc n) h = omega (arith, h n (omega arith), total_same f g n (λ k l. h k (omega arith)))

pub total_add : (f g : ℕ → ℕ) (n : ℕ) → total (λ k. f k + g k) n ≡ total f n + total g n
total_add f g zero = refl
total_add f g (suc n) = omega (arith, total_add f g n)

pub total_zero : (f : ℕ → ℕ) (n : ℕ) → ((k : ℕ) → k < n → f k ≡ 0) → total f n ≡ 0
total_zero f zero h = refl
total_zero f (suc n) h = omega (arith, h n (omega arith), total_zero f n (λ k l. h k (omega arith)))

-- one place alone
pub total_single : (f : ℕ → ℕ) (n i v : ℕ) → i < n → f i ≡ v → ((k : ℕ) → k < n → k ≢ i → f k ≡ 0) → total f n ≡ v
total_single f zero i v l e h = absurd (omega arith)
total_single f (suc n) i v l e h =
    ⊎_elim
    (λ q. let z : f n ≡ v = subst (λ k. f k ≡ v) q e in omega (arith, z, total_zero f n (λ k lk. h k (omega arith) (omega arith))))
    (λ ne. omega (arith, h n (omega arith) (λ q. ne (sym q)), total_single f n i v (omega arith) e (λ k lk nk. h k (omega arith) nk)))
    (cases_eq i n)

-- the order of two sums
pub total_swap : (f : ℕ → ℕ → ℕ) (m n : ℕ) → total (λ k. total (f k) n) m ≡ total (λ j. total (λ k. f k j) m) n
total_swap f zero n = sym (total_zero (λ j. 0) n (λ k l. refl))
total_swap f (suc m) n = omega (arith, total_swap f m n, total_add (f m) (λ j. total (λ k. f k j) m) n)

total_shift : (f : ℕ → ℕ) (n : ℕ) → total f (suc n) ≡ f 0 + total (λ k. f (suc k)) n
total_shift f zero = refl
total_shift f (suc n) = omega (arith, total_shift f n)

pub sumBy_total : (f : Link → ℕ) (ls : List Link) → sum_by f ls ≡ total (λ n. f (link_at ls n)) (length ls)
sumBy_total f [] = refl
sumBy_total f (x ∷ xs) = omega (arith, sum_by-cons f x xs, sumBy_total f xs, total_shift (λ n. f (link_at (x ∷ xs) n)) (length xs))

-- 1 where node n is in use and has serial k
hit : List Link → (ℕ → ℕ) → ℕ → ℕ → ℕ
hit ls serial k n = cond (eqb k (serial n)) (is_used (link_at ls n)) 0

hit_same : (ls : List Link) (serial : ℕ → ℕ) (k n : ℕ) → k ≡ serial n → hit ls serial k n ≡ is_used (link_at ls n)
unfolding hit
hit_same ls serial k n e = rw (eq-eqb k (serial n) e)

hit_other : (ls : List Link) (serial : ℕ → ℕ) (k n : ℕ) → k ≢ serial n → hit ls serial k n ≡ 0
unfolding hit
hit_other ls serial k n e = rw (ne_eqb k (serial n) e)

pub serials_count_nodes : SerialsCountNodes
serials_count_nodes ls head free w serial issued seen t back forth =
    let live : (n : ℕ) → is_used (link_at ls n) ≢ 0 → 0 < (link_at ls n).count
    = λ n h. ⊎_elim (λ l. l) (λ z. absurd (h (is_used_free (link_at ls n) (omega arith)))) (cases_lt 0 (link_at ls n).count) in
    let by_serial : (k : ℕ) → k < issued → sign (seen k) ≡ total (hit ls serial k) (length ls)
    = λ k lk. ⊎_elim
    (λ h.
    let b = back k h in
    let v : hit ls serial k b.0 ≡ 1 = hit_same ls serial k b.0 (sym b.3) ∙ is_used_used (link_at ls b.0) b.2 in
    sign_one (seen k) h ∙ sym (total_single (hit ls serial k) (length ls) b.0 1 b.1 v (λ n ln ne. ⊎_elim
    (λ e. ⊎_elim (λ z. hit_same ls serial k n e ∙ z) (λ z. absurd (ne (t.apart n b.0 ln b.1 (live n z) b.2 (sym e ∙ sym b.3)))) (cases_eq (is_used (link_at ls n)) 0))
    (λ e. hit_other ls serial k n e)
    (cases_eq k (serial n)))))
    (λ z. sign_zero (seen k) (omega arith) ∙ sym (total_zero (hit ls serial k) (length ls) (λ n ln. ⊎_elim
    (λ e. ⊎_elim (λ y. hit_same ls serial k n e ∙ y) (λ y. absurd (let s = forth n ln (live n y) in let s2 : 0 < seen k = subst (λ x. 0 < seen x) (sym e) s in omega arith)) (cases_eq (is_used (link_at ls n)) 0))
    (λ e. hit_other ls serial k n e)
    (cases_eq k (serial n)))))
    (cases_lt 0 (seen k)) in
    let by_node : (n : ℕ) → n < length ls → total (λ k. hit ls serial k n) issued ≡ is_used (link_at ls n)
    = λ n ln. ⊎_elim
    (λ z. total_zero (λ k. hit ls serial k n) issued (λ k lk. ⊎_elim (λ e. hit_same ls serial k n e ∙ z) (λ e. hit_other ls serial k n e) (cases_eq k (serial n))) ∙ sym z)
    (λ y. total_single (λ k. hit ls serial k n) issued (serial n) (is_used (link_at ls n)) (t.past n ln (live n y)) (hit_same ls serial (serial n) n refl) (λ k lk ne. hit_other ls serial k n ne))
    (cases_eq (is_used (link_at ls n)) 0) in
    let e : different seen issued ≡ sum_by is_used ls
    = total_same (λ k. sign (seen k)) (λ k. total (hit ls serial k) (length ls)) issued by_serial
    ∙ total_swap (hit ls serial) issued (length ls)
    ∙ total_same (λ n. total (λ k. hit ls serial k n) issued) (λ n. is_used (link_at ls n)) (length ls) by_node
    ∙ sym (sumBy_total is_used ls) in
    omega (arith, e, t.whole)
