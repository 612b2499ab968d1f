-- Cutting at a separator, step by step. Assumes nothing.
use Rattle.std.proofs.Common.{◌≡◌, ◌≢◌, ℕ, zero, suc, ◌+◌, ◌<◌, true, false, cond, eqb, List, [], ◌∷◌, length, get_or, take, drop, Some, None, unwrap_or, Option, Bor, sym, refl, ap, ◌∙◌, add-one, arith, eq-eqb, ne_eqb}
use Rattle.std.specs.List.{slice_split, onto_first}
use Rattle.std.proofs.lemmas.List.Recursion.{same_from_clauses}
use Rattle.std.specs.Option.{option_map}
use Rattle.fields.specs.Cuts.{front, after, fields, lines, fields_in, lines_in}

-- the first c is at i
pub cut_at : (c : ℕ) (bs : List ℕ) (i : ℕ) → i < length bs → get_or bs i 0 ≡ c → ((k : ℕ) → k < i → get_or bs k 0 ≢ c) → (front c bs ≡ take i bs) × (after c bs ≡ Some (drop (i + 1) bs))
cut_at c [] i inside same before = absurd (omega arith)
cut_at c (b ∷ bs) zero inside same before = let e = eq-eqb b c same in (rw e refl, rw e refl)
cut_at c (b ∷ bs) (suc i) inside same before =
    let e = ne_eqb b c (before 0 (omega arith)) in
    let rest = cut_at c bs i (omega arith) same (λ k h. before (suc k) (omega arith)) in
    (rw e (ap (λ l. b ∷ l) rest.0), rw (e, add-one) (rw add-one at rest.1))

-- there is no c
pub cut_nowhere : (c : ℕ) (bs : List ℕ) → ((k : ℕ) → k < length bs → get_or bs k 0 ≢ c) → (front c bs ≡ bs) × (after c bs ≡ None)
cut_nowhere c [] none = (refl, refl)
cut_nowhere c (b ∷ bs) none =
    let e = ne_eqb b c (none 0 (omega arith)) in
    let rest = cut_nowhere c bs (λ k h. none (suc k) (omega arith)) in
    (rw e (ap (λ l. b ∷ l) rest.0), rw e rest.1)

-- the fields are what `split` gives
pub split_is_fields : (bs : List ℕ) → slice_split (λ b. eqb b 44) bs ≡ fields bs
split_is_fields bs = same_from_clauses (slice_split (λ b. eqb b 44)) fields (λ b ps. cond (eqb b 44) ([] ∷ ps) (onto_first b ps)) refl (λ _ _. refl) (λ _ _. refl) bs

-- the first field and the others
pub fields_cut : (bs : List ℕ) → fields bs ≡ front 44 bs ∷ fields_in (after 44 bs)
fields_cut [] = refl
fields_cut (b ∷ bs) =
    elim (eqb b 44) as (λ t. cond t ([] ∷ fields bs) (onto_first b (fields bs)) ≡ cond t [] (b ∷ front 44 bs) ∷ fields_in (cond t (Some bs) (after 44 bs))) [ true ↦ refl | false ↦ ap (onto_first b) (fields_cut bs) ]

-- the first line and the others
pub lines_cut : (b : ℕ) (bs : List ℕ) → lines (b ∷ bs) ≡ front 10 (b ∷ bs) ∷ lines_in (after 10 (b ∷ bs))
lines_cut b [] = elim (eqb b 10) as (λ t. cond t ([] ∷ []) ((b ∷ []) ∷ []) ≡ cond t [] (b ∷ []) ∷ lines_in (cond t (Some []) None)) [ true ↦ refl | false ↦ refl ]
lines_cut b (x ∷ xs) =
    let bs = x ∷ xs in
    let rest = lines_cut x xs in
    elim (eqb b 10) as (λ t. cond t ([] ∷ lines bs) (onto_first b (lines bs)) ≡ cond t [] (b ∷ front 10 bs) ∷ lines_in (cond t (Some bs) (after 10 bs))) [ true ↦ refl | false ↦ ap (onto_first b) rest ]

pub after_shorter : (c : ℕ) (bs xs : List ℕ) → after c bs ≡ Some xs → length xs < length bs
after_shorter c [] xs e = cc
after_shorter c (b ∷ bs) xs e =
    let rest = after_shorter c bs xs in
    elim (eqb b c) as (λ t. cond t (Some bs) (after c bs) ≡ Some xs → length xs < suc (length bs)) [
      | true ↦ λ (f : Some bs ≡ Some xs). let same : bs ≡ xs = cc in omega (arith, ap length same)
      | false ↦ λ (f : after c bs ≡ Some xs). omega (arith, rest f)
    ] e

-- the first line, and the rest or else nothing
pub next_of : (bs : List ℕ) (rest : Option (Bor (List ℕ))) (nothing more : Bor (List ℕ)) → 0 < length bs → option_map (λ x. x.now) rest ≡ after 10 bs → nothing.now ≡ [] → more ≡ unwrap_or rest nothing → (lines bs ≡ front 10 bs ∷ lines more.now) × (length more.now < length bs)
next_of [] rest nothing more some e empty or = absurd (omega arith)
next_of (b ∷ bs) None nothing more some e empty or =
    let last : more.now ≡ [] = ap (λ x. x.now) or ∙ empty in
    (lines_cut b bs ∙ ap (λ o. front 10 (b ∷ bs) ∷ lines_in o) (sym e) ∙ ap (λ l. front 10 (b ∷ bs) ∷ lines l) (sym last), omega (arith, ap length last))
next_of (b ∷ bs) (Some next) nothing more some e empty or =
    let same : next.now ≡ more.now = ap (λ x. x.now) (sym or) in
    (lines_cut b bs ∙ ap (λ o. front 10 (b ∷ bs) ∷ lines_in o) (sym e) ∙ ap (λ l. front 10 (b ∷ bs) ∷ lines l) same, after_shorter 10 (b ∷ bs) more.now (sym e ∙ ap (λ l. Some l) same))
