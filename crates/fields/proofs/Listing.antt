-- One field more of a line's numbers. Assumes nothing.
use Rattle.std.proofs.Common.{◌≡◌, ℕ, ◌+◌, ◌<◌, List, [], ◌∷◌, ◌++◌, length, get_or, drop, Ok, Err, Result, sym, refl, ap, ◌∙◌, append_assoc}
use Rattle.std.proofs.lemmas.List.{at_drop_more}
use Rattle.fields.specs.declared.fault.FieldFault.{FieldFault}
use Rattle.fields.specs.Numbers.{read_field}
use Rattle.fields.specs.Lists.{before_others, numbers_of}

-- numbers that were read before others
abbrev pub after_those : List ℕ → Result (List ℕ) FieldFault → Result (List ℕ) FieldFault
after_those ns (Ok more) = Ok (ns ++ more)
after_those ns (Err f) = Err f

after_one : (ns : List ℕ) (n : ℕ) (r : Result (List ℕ) FieldFault) → after_those ns (before_others (Ok n) r) ≡ after_those (ns ++ (n ∷ [])) r
after_one ns n (Ok more) = ap (λ l. Ok l) (sym (append_assoc ns (n ∷ []) more))
after_one ns n (Err f) = refl

pub after_none : (r : Result (List ℕ) FieldFault) → after_those [] r ≡ r
after_none (Ok more) = refl
after_none (Err f) = refl

-- field i is read, and what it gives stands before the numbers of the others
module _ (ns : List ℕ) (i limit : ℕ) (fs : List (List ℕ)) (f : List ℕ) (lt : i < length fs) (here : f ≡ get_or fs i f) where
  first : (r : Result ℕ FieldFault) → read_field (i + 1) limit f ≡ r → after_those ns (numbers_of (i + 1) limit (drop i fs)) ≡ after_those ns (before_others r (numbers_of (i + 1 + 1) limit (drop (i + 1) fs)))
  first r e = ap (after_those ns) (at_drop_more (numbers_of (i + 1) limit) fs i f lt ∙ ap (λ x. before_others x (numbers_of (i + 1 + 1) limit (drop (i + 1) fs))) (ap (read_field (i + 1) limit) (sym here) ∙ e))

  pub read_one : (n : ℕ) → read_field (i + 1) limit f ≡ Ok n → after_those ns (numbers_of (i + 1) limit (drop i fs)) ≡ after_those (ns ++ (n ∷ [])) (numbers_of (i + 1 + 1) limit (drop (i + 1) fs))
  read_one n e = first (Ok n) e ∙ after_one ns n (numbers_of (i + 1 + 1) limit (drop (i + 1) fs))

  pub read_fault : (x : FieldFault) → read_field (i + 1) limit f ≡ Err x → after_those ns (numbers_of (i + 1) limit (drop i fs)) ≡ Err x
  read_fault x e = first (Err x) e
