-- When fields are read as numbers. Assumes nothing.
use Rattle.std.proofs.Common.{◌≡◌, ℕ, ◌+◌, ◌<◌, Bool, true, false, cond, leb, List, [], ◌∷◌, Ok, Err, Result, refl, ap, ◌∙◌, arith, le-leb, leb-true}
use Rattle.std.specs.Str.Parse.{digits_value}
use Rattle.std.specs.Str.{all_ascii_digits}
use Rattle.std.proofs.lemmas.Str.Parse.{tells_all_ascii_digits}
use Rattle.fields.specs.declared.fault.FieldFault.{FieldFault}
use Rattle.fields.specs.declared.fault.FieldFault.TheVariants.{NotDigit, AboveLimit}
use Rattle.fields.specs.Numbers.{Numeral, read_field}
use Rattle.fields.specs.Lists.{before_others, numbers_of, Numerals}
use Rattle.fields.specs.Laws.{Lacks, NumbersExact}

tested_ok : (s t : Bool) (x n : ℕ) (a b : FieldFault) → cond s (cond t (Ok x) (Err a)) (Err b) ≡ Ok n → (s ≡ true) × (t ≡ true) × (x ≡ n)
tested_ok true true x n a b h = (refl, refl, cc)
tested_ok true false x n a b h = cc
tested_ok false t x n a b h = cc

pub numeral_from_read : (k limit : ℕ) (ds : List ℕ) (n : ℕ) → read_field k limit ds ≡ Ok n → Numeral limit ds n
numeral_from_read k limit [] n h = cc
numeral_from_read k limit (b ∷ bs) n h =
    let t = tested_ok (all_ascii_digits (b ∷ bs)) (leb (digits_value 10 (b ∷ bs)) limit) (digits_value 10 (b ∷ bs)) n (AboveLimit k) (NotDigit k) h in
    record { some_digit = omega arith; only_digits = t.0; stands_for = t.2; at_most = omega (arith, t.2, leb-true (digits_value 10 (b ∷ bs)) limit t.1) }

pub read_from_numeral : (k limit : ℕ) (ds : List ℕ) (n : ℕ) → Numeral limit ds n → read_field k limit ds ≡ Ok n
read_from_numeral k limit [] n h = absurd (omega (arith, h.some_digit))
read_from_numeral k limit (b ∷ bs) n h =
    ap (λ t. cond t (cond (leb (digits_value 10 (b ∷ bs)) limit) (Ok (digits_value 10 (b ∷ bs))) (Err (AboveLimit k))) (Err (NotDigit k))) h.only_digits
    ∙ ap (λ t. cond t (Ok (digits_value 10 (b ∷ bs))) (Err (AboveLimit k))) (le-leb (digits_value 10 (b ∷ bs)) limit (omega (arith, h.stands_for, h.at_most)))
    ∙ ap (λ v. Ok v) h.stands_for

-- digits are no separators
pub digits_lack : (c : ℕ) (ds : List ℕ) → c < 48 → all_ascii_digits ds ≡ true → Lacks c ds
digits_lack c [] h e = tt
digits_lack c (d ∷ ds) h e = let p = tells_all_ascii_digits.parts d ds e in ((λ same. omega (arith, p.0.0)), digits_lack c ds h p.1)

others_ok : (r : Result ℕ FieldFault) (s : Result (List ℕ) FieldFault) (n : ℕ) (ns : List ℕ) → before_others r s ≡ Ok (n ∷ ns) → (r ≡ Ok n) × (s ≡ Ok ns)
others_ok (Ok m) (Ok ms) n ns h = (cc, cc)
others_ok (Ok m) (Err f) n ns h = cc
others_ok (Err f) s n ns h = cc

none_ok : {X : Type 0} (r : Result ℕ FieldFault) (s : Result (List ℕ) FieldFault) → before_others r s ≡ Ok [] → X
none_ok (Ok m) (Ok ms) h = cc
none_ok (Ok m) (Err f) h = cc
none_ok (Err f) s h = cc

numerals_from_read : (k limit : ℕ) (fs : List (List ℕ)) (ns : List ℕ) → numbers_of k limit fs ≡ Ok ns → Numerals limit fs ns
numerals_from_read k limit [] [] h = tt
numerals_from_read k limit [] (n ∷ ns) h = cc
numerals_from_read k limit (f ∷ fs) [] h = none_ok (read_field k limit f) (numbers_of (k + 1) limit fs) h
numerals_from_read k limit (f ∷ fs) (n ∷ ns) h =
    let both = others_ok (read_field k limit f) (numbers_of (k + 1) limit fs) n ns h in
    (numeral_from_read k limit f n both.0, numerals_from_read (k + 1) limit fs ns both.1)

read_from_numerals : (k limit : ℕ) (fs : List (List ℕ)) (ns : List ℕ) → Numerals limit fs ns → numbers_of k limit fs ≡ Ok ns
read_from_numerals k limit [] [] h = refl
read_from_numerals k limit [] (n ∷ ns) h = absurd h
read_from_numerals k limit (f ∷ fs) [] h = absurd h
read_from_numerals k limit (f ∷ fs) (n ∷ ns) h =
    ap (λ r. before_others r (numbers_of (k + 1) limit fs)) (read_from_numeral k limit f n h.0)
    ∙ ap (before_others (Ok n)) (read_from_numerals (k + 1) limit fs ns h.1)

pub numbers_exact : NumbersExact
numbers_exact k limit fs ns = (numerals_from_read k limit fs ns, read_from_numerals k limit fs ns)
