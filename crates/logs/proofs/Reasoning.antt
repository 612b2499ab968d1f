-- A line that is refused gets the first number that fits. Assumes nothing.
use Rattle.std.proofs.Common.{◌≡◌, ℕ, zero, suc, Bool, true, false, cond, ltb, leb, List, [], ◌∷◌, length, Some, None, Ok, Err, Option, Result, sym, refl, ap, ◌∙◌, subst, inl, inr, arith, ltb-false, ltb-true, leb-false}
use Rattle.std.specs.Str.Parse.{digits_value}
use Rattle.std.specs.Str.{all_ascii_digits}
use Rattle.fields.specs.declared.fault.FieldFault.{FieldFault}
use Rattle.fields.specs.declared.fault.FieldFault.TheVariants.{Empty, NotDigit, AboveLimit}
use Rattle.fields.specs.Cuts.{front, after, fields, fields_in}
use Rattle.fields.specs.Numbers.{read_field}
use Rattle.fields.proofs.Cutting.{fields_cut}
use Rattle.logs.specs.declared.fault.LineFault.{LineFault}
use Rattle.logs.specs.declared.fault.LineFault.TheVariants.{TooLong, UnknownLetter, FieldCount, Field}
use Rattle.logs.specs.declared.line.Program.{Program}
use Rattle.logs.specs.declared.line.Letter.{Letter}
use Rattle.logs.specs.declared.line.Letter.TheVariants.{Map, Seed, Record, Start, Advance, Weigh, Resample, Share, Path, Finish}
use Rattle.logs.specs.declared.line.Line.{Line}
use Rattle.logs.specs.declared.line.Line.TheVariants as line
use Rattle.logs.specs.Lines.{letter_of, in_line, both, become, arguments_of, no_number, one_number, two_numbers, share_of, line_by, line_by_known, only_letter, from_fields}
use Rattle.logs.proofs.Forming.{in_line_ok}
use Rattle.logs.specs.Reasons.{limits_of, FaultHere, Leftmost, ReasonAfter, ReasonIn, Reason, FirstReason}

become_err : {X : Type 0} (f : X → Line) (r : Result X LineFault) (e : LineFault) → become f r ≡ Err e → r ≡ Err e
become_err f (Ok x) e h = cc
become_err f (Err g) e h = cc

-- why fields with these limits, and no others, are refused
Why : List ℕ → List (List ℕ) → LineFault → Type 0
Why ls fs f = ReasonAfter (ls ∷ []) fs f

other_count : (ls : List ℕ) (fs : List (List ℕ)) (f : LineFault) → FieldCount ≡ f → (length ls ≡ length fs → ⊥) → Why ls fs f
unfolding Why
other_count ls fs f e ne = subst (ReasonAfter (ls ∷ []) fs) e (ne, tt)

field_fault : (ls : List ℕ) (fs : List (List ℕ)) (g : FieldFault) (f : LineFault) → Field g ≡ f → length ls ≡ length fs → Leftmost ls 2 fs g → Why ls fs f
unfolding Why
field_fault ls fs g f e long left = subst (ReasonAfter (ls ∷ []) fs) e (0, ls, omega arith, refl, (long, left))

here : (k limit : ℕ) (bs : List ℕ) (g : FieldFault) → read_field k limit bs ≡ Err g → FaultHere limit k bs g
here k limit [] g h = let e : Empty k ≡ g = cc in subst (FaultHere limit k []) e (refl, refl)
here k limit (b ∷ bs) g h = go (all_ascii_digits (b ∷ bs)) refl (leb (digits_value 10 (b ∷ bs)) limit) refl h
  where
    go : (s : Bool) → all_ascii_digits (b ∷ bs) ≡ s → (t : Bool) → leb (digits_value 10 (b ∷ bs)) limit ≡ t → cond s (cond t (Ok (digits_value 10 (b ∷ bs))) (Err (AboveLimit k))) (Err (NotDigit k)) ≡ Err g → FaultHere limit k (b ∷ bs) g
    go true e true l x = cc
    go true e false l x = let same : AboveLimit k ≡ g = cc in subst (FaultHere limit k (b ∷ bs)) same (refl, omega arith, e, leb-false (digits_value 10 (b ∷ bs)) limit l)
    go false e t l x = let same : NotDigit k ≡ g = cc in subst (FaultHere limit k (b ∷ bs)) same (refl, omega arith, e)

-- a field's fault that was carried
in_line_err : (k limit : ℕ) (a : List ℕ) (f : LineFault) → in_line (read_field k limit a) ≡ Err f → (g : FieldFault) × (Field g ≡ f) × FaultHere limit k a g
in_line_err k limit a f h = go (read_field k limit a) refl h
  where
    go : (r : Result ℕ FieldFault) → read_field k limit a ≡ r → in_line r ≡ Err f → (g : FieldFault) × (Field g ≡ f) × FaultHere limit k a g
    go (Ok n) e x = cc
    go (Err g) e x = (g, cc, here k limit a g e)

-- the first fault of two fields
pair_err : (limit other : ℕ) (a b : List ℕ) (f : LineFault) → both (in_line (read_field 2 limit a)) (in_line (read_field 3 other b)) ≡ Err f → Why (limit ∷ other ∷ []) (a ∷ b ∷ []) f
pair_err limit other a b f h = go (in_line (read_field 2 limit a)) refl (in_line (read_field 3 other b)) refl h
  where
    go : (r : Result ℕ LineFault) → in_line (read_field 2 limit a) ≡ r → (s : Result ℕ LineFault) → in_line (read_field 3 other b) ≡ s → both r s ≡ Err f → Why (limit ∷ other ∷ []) (a ∷ b ∷ []) f
    go (Ok x) e (Ok y) d t = cc
    go (Ok x) e (Err g) d t =
        let w = in_line_err 3 other b f (cc) in
        field_fault (limit ∷ other ∷ []) (a ∷ b ∷ []) w.0 f w.1 refl (inr (x, in_line_ok 2 limit a x e, inl w.2))
    go (Err g) e s d t =
        let w = in_line_err 2 limit a f (cc) in
        field_fault (limit ∷ other ∷ []) (a ∷ b ∷ []) w.0 f w.1 refl (inl w.2)

only_err : (limit : ℕ) (a : List ℕ) (f : LineFault) → in_line (read_field 2 limit a) ≡ Err f → Why (limit ∷ []) (a ∷ []) f
only_err limit a f h = let w = in_line_err 2 limit a f h in field_fault (limit ∷ []) (a ∷ []) w.0 f w.1 refl (inl w.2)

none_err : (fs : List (List ℕ)) (f : LineFault) → no_number (arguments_of fs) ≡ Err f → Why [] fs f
none_err [] f h = cc
none_err (a ∷ []) f h = other_count [] (a ∷ []) f (cc) (λ e. omega arith)
none_err (a ∷ b ∷ []) f h = other_count [] (a ∷ b ∷ []) f (cc) (λ e. omega arith)
none_err (a ∷ b ∷ c ∷ fs) f h = other_count [] (a ∷ b ∷ c ∷ fs) f (cc) (λ e. omega arith)

one_err : (limit : ℕ) (fs : List (List ℕ)) (f : LineFault) → one_number limit (arguments_of fs) ≡ Err f → Why (limit ∷ []) fs f
one_err limit [] f h = other_count (limit ∷ []) [] f (cc) (λ e. omega arith)
one_err limit (a ∷ []) f h = only_err limit a f h
one_err limit (a ∷ b ∷ []) f h = other_count (limit ∷ []) (a ∷ b ∷ []) f (cc) (λ e. omega arith)
one_err limit (a ∷ b ∷ c ∷ fs) f h = other_count (limit ∷ []) (a ∷ b ∷ c ∷ fs) f (cc) (λ e. omega arith)

two_err : (limit other : ℕ) (fs : List (List ℕ)) (f : LineFault) → two_numbers limit other (arguments_of fs) ≡ Err f → Why (limit ∷ other ∷ []) fs f
two_err limit other [] f h = other_count (limit ∷ other ∷ []) [] f (cc) (λ e. omega arith)
two_err limit other (a ∷ []) f h = other_count (limit ∷ other ∷ []) (a ∷ []) f (cc) (λ e. omega arith)
two_err limit other (a ∷ b ∷ []) f h = pair_err limit other a b f h
two_err limit other (a ∷ b ∷ c ∷ fs) f h = other_count (limit ∷ other ∷ []) (a ∷ b ∷ c ∷ fs) f (cc) (λ e. omega arith)

-- one of two forms
first_form : (ls ms : List ℕ) (fs : List (List ℕ)) (f : LineFault) → (length ms ≡ length fs → ⊥) → Why ls fs f → ReasonAfter (ls ∷ ms ∷ []) fs f
unfolding Why
first_form ls ms fs TooLong ne w = w
first_form ls ms fs UnknownLetter ne w = w
first_form ls ms fs FieldCount ne w = (w.0, (ne, tt))
first_form ls ms fs (Field g) ne (zero, ns, below, is, why) = (0, ns, omega arith, is, why)
first_form ls ms fs (Field g) ne (suc k, ns, below, is, why) = absurd (omega arith)

second_form : (ls ms : List ℕ) (fs : List (List ℕ)) (f : LineFault) → (length ls ≡ length fs → ⊥) → Why ms fs f → ReasonAfter (ls ∷ ms ∷ []) fs f
unfolding Why
second_form ls ms fs TooLong ne w = w
second_form ls ms fs UnknownLetter ne w = w
second_form ls ms fs FieldCount ne w = (ne, w)
second_form ls ms fs (Field g) ne (k, ns, below, is, why) = (suc k, ns, omega arith, is, why)

neither : (ls ms : List ℕ) (fs : List (List ℕ)) (f : LineFault) → FieldCount ≡ f → (length ls ≡ length fs → ⊥) → (length ms ≡ length fs → ⊥) → ReasonAfter (ls ∷ ms ∷ []) fs f
neither ls ms fs f e p q = subst (ReasonAfter (ls ∷ ms ∷ []) fs) e (p, (q, tt))

share_err : (fs : List (List ℕ)) (f : LineFault) → share_of (arguments_of fs) ≡ Err f → ReasonAfter (limits_of Share) fs f
share_err [] f h = neither (65535 ∷ []) (65535 ∷ 65535 ∷ []) [] f (cc) (λ e. omega arith) (λ e. omega arith)
share_err (a ∷ []) f h = first_form (65535 ∷ []) (65535 ∷ 65535 ∷ []) (a ∷ []) f (λ e. omega arith) (only_err 65535 a f (become_err (line.Share None) _ f h))
share_err (a ∷ b ∷ []) f h = second_form (65535 ∷ []) (65535 ∷ 65535 ∷ []) (a ∷ b ∷ []) f (λ e. omega arith) (pair_err 65535 65535 a b f (become_err (λ q. line.Share (Some q.0) q.1) _ f h))
share_err (a ∷ b ∷ c ∷ fs) f h = neither (65535 ∷ []) (65535 ∷ 65535 ∷ []) (a ∷ b ∷ c ∷ fs) f (cc) (λ e. omega arith) (λ e. omega arith)

by_letter : (k : Letter) (fs : List (List ℕ)) (f : LineFault) → line_by k (arguments_of fs) ≡ Err f → ReasonAfter (limits_of k) fs f
unfolding Why
by_letter Map fs f h = two_err 31 4294967295 fs f (become_err (λ q. line.Map q.0 q.1) _ f h)
by_letter Seed fs f h = one_err 4294967295 fs f (become_err line.Seed _ f h)
by_letter Record fs f h = one_err 4294967295 fs f (become_err line.Record _ f h)
by_letter Start fs f h = one_err 65535 fs f (become_err line.Start _ f h)
by_letter Advance fs f h = one_err 255 fs f (become_err line.Advance _ f h)
by_letter Weigh fs f h = one_err 255 fs f (become_err line.Weigh _ f h)
by_letter Resample fs f h = none_err fs f (become_err (λ _. line.Resample) _ f h)
by_letter Share fs f h = share_err fs f h
by_letter Path fs f h = one_err 65535 fs f (become_err line.Path _ f h)
by_letter Finish fs f h = none_err fs f (become_err (λ _. line.Finish) _ f h)

-- the reason behind a known letter
behind : (p : Program) (c : ℕ) (k : Letter) (fs : List (List ℕ)) (f : LineFault) → letter_of p c ≡ Some k → ReasonAfter (limits_of k) fs f → ReasonIn p (c ∷ []) fs f
behind p c k fs TooLong e r = r
behind p c k fs UnknownLetter e r = absurd r
behind p c k fs FieldCount e r = record { code = c; letter = k; is = refl; known = e; reason = r }
behind p c k fs (Field g) e r = record { code = c; letter = k; is = refl; known = e; reason = r }

unknown : (p : Program) (first : List ℕ) (fs : List (List ℕ)) (f : LineFault) → only_letter p first ≡ None → UnknownLetter ≡ f → ReasonIn p first fs f
unknown p first fs f none e = subst (ReasonIn p first fs) e (λ c k is known. let both : None ≡ Some k = sym none ∙ ap (only_letter p) is ∙ known in cc)

in_fields : (p : Program) (first : List ℕ) (fs : List (List ℕ)) (f : LineFault) → from_fields p (first ∷ fs) ≡ Err f → ReasonIn p first fs f
in_fields p [] fs f h = unknown p [] fs f refl (cc)
in_fields p (c ∷ d ∷ cs) fs f h = unknown p (c ∷ d ∷ cs) fs f refl (cc)
in_fields p (c ∷ []) fs f h = go (letter_of p c) refl h
  where
    go : (o : Option Letter) → letter_of p c ≡ o → line_by_known o (arguments_of fs) ≡ Err f → ReasonIn p (c ∷ []) fs f
    go None e x = unknown p (c ∷ []) fs f e (cc)
    go (Some k) e x = behind p c k fs f e (by_letter k fs f x)

pub first_reason : FirstReason
first_reason p bs f h = go (ltb 100 (length bs)) refl h
  where
    go : (t : Bool) → ltb 100 (length bs) ≡ t → cond t (Err TooLong) (from_fields p (fields bs)) ≡ Err f → Reason p bs f
    go true e x = inl (cc, ltb-true 100 (length bs) e)
    go false e x =
        let split = fields_cut bs in
        inr (ltb-false 100 (length bs) e, front 44 bs, fields_in (after 44 bs), split, in_fields p (front 44 bs) (fields_in (after 44 bs)) f (sym (ap (from_fields p) split) ∙ x))
