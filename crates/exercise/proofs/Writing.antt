-- An exercise is read exactly when it is written. Assumes nothing.
use Rattle.std.proofs.Common.{◌≡◌, ℕ, suc, eqb, ◌<◌, ◌≤◌, Bool, true, false, cond, ltb, ◌⊎◌, List, [], ◌∷◌, ◌++◌, length, IfOk, Some, None, Ok, Err, string_bytes, Option, Result, String, sym, refl, ap, ◌∙◌, inl, inr, append_assoc, arith, ltb-false, le-ltb}
use Rattle.std.specs.declared.alloc.AllocError.{AllocError}
use Rattle.std.specs.declared.alloc.Global.{Global}
use Rattle.std.specs.List.{AllByRecursion}
use Rattle.std.proofs.ByRecursion.{All-append}
use Rattle.std.proofs.lemmas.List.{append-nil, append_cancel_right}
use Rattle.std.proofs.lemmas.List.Splits.{length-slice_split}
use Rattle.fields.specs.declared.fault.FieldFault.{FieldFault}
use Rattle.fields.specs.Cuts.{fields, lines}
use Rattle.fields.specs.Numbers.{read_field}
use Rattle.fields.specs.Lists.{numbers_of, Numerals}
use Rattle.fields.specs.Laws.{join_by, end_by, Lacks}
use Rattle.fields.proofs.Exact.{digits_lack, numeral_from_read, read_from_numeral, numbers_exact}
use Rattle.fields.proofs.Cutting.{split_is_fields}
use Rattle.fields.proofs.Joining.{fields_join, fields_alone, lines_join, lines_alone}
use Rattle.exercise.specs.declared.fault.Fault.{Fault}
use Rattle.exercise.specs.declared.fault.Fault.TheVariants.{TooLong}
use Rattle.exercise.specs.Inputs.{two_lines, only_field, beside, in_two, shape_of, at_line, weights_of, drawn_of, both, in_shape, exercise_of}
use Rattle.exercise.specs.Answers.{answer_of, in_exercise, result_text, report_of}
use Rattle.exercise.specs.Written.{Written}

numerals_lack : (c limit : ℕ) (fs : List (List ℕ)) (ns : List ℕ) → c < 48 → Numerals limit fs ns → AllByRecursion (Lacks c) fs
numerals_lack c limit [] [] h e = tt
numerals_lack c limit [] (n ∷ ns) h e = tt
numerals_lack c limit (f ∷ fs) [] h e = absurd e
numerals_lack c limit (f ∷ fs) (n ∷ ns) h e = (digits_lack c f h e.0.only_digits, numerals_lack c limit fs ns h e.1)

join_lacks : (c d : ℕ) (fs : List (List ℕ)) → (d ≡ c → ⊥) → AllByRecursion (Lacks c) fs → Lacks c (join_by d fs)
join_lacks c d [] ne e = tt
join_lacks c d (f ∷ []) ne e = e.0
join_lacks c d (f ∷ g ∷ fs) ne e = All-append (λ b. b ≡ c → ⊥) f (d ∷ join_by d (g ∷ fs)) e.0 (ne, join_lacks c d (g ∷ fs) ne e.1)

-- the parts of a shape that was found
pub record Shaped (bs a f : List ℕ) : Type 0 where
  pub short : length bs ≤ 32768
  pub second : List ℕ
  pub two : lines bs ≡ a ∷ second ∷ []
  pub one : fields second ≡ f ∷ []

only_ok : (fs : List (List ℕ)) (f : List ℕ) → only_field fs ≡ Some f → fs ≡ f ∷ []
only_ok [] f h = cc
only_ok (g ∷ []) f h = cc
only_ok (g ∷ x ∷ fs) f h = cc

beside_ok : (w : List ℕ) (o : Option (List ℕ)) (a f : List ℕ) → beside w o ≡ Ok (a, f) → (w ≡ a) × (o ≡ Some f)
beside_ok w None a f h = cc
beside_ok w (Some g) a f h = let e : ◌≡◌ {A = List ℕ × List ℕ} (w, g) (a, f) = cc in (ap (λ p. p.0) e, ap (λ p. Some p.1) e)

two_ok : (ls : List (List ℕ)) (a f : List ℕ) → in_two (two_lines ls) ≡ Ok (a, f) → (b : List ℕ) × (ls ≡ a ∷ b ∷ []) × (fields b ≡ f ∷ [])
two_ok [] a f h = cc
two_ok (x ∷ []) a f h = cc
two_ok (x ∷ y ∷ []) a f h =
    let p = beside_ok x (only_field (fields y)) a f h in
    (y, ap (λ l. l ∷ y ∷ []) p.0, only_ok (fields y) f p.1)
two_ok (x ∷ y ∷ z ∷ ls) a f h = cc

shape_ok : (bs a f : List ℕ) → shape_of bs ≡ Ok (a, f) → Shaped bs a f
shape_ok bs a f h = go (ltb 32768 (length bs)) refl h
  where
    go : (t : Bool) → ltb 32768 (length bs) ≡ t → cond t (Err TooLong) (in_two (two_lines (lines bs))) ≡ Ok (a, f) → Shaped bs a f
    go true e g = cc
    go false e g = let p = two_ok (lines bs) a f g in record { short = ltb-false 32768 (length bs) e; second = p.0; two = p.1; one = p.2 }

at_ok : {X : Type 0} (k : ℕ) (r : Result X FieldFault) (x : X) → at_line k r ≡ Ok x → r ≡ Ok x
at_ok k (Ok y) x h = cc
at_ok k (Err f) x h = cc

both_ok : {X Y : Type 0} (r : Result X Fault) (s : Result Y Fault) (x : X) (y : Y) → both r s ≡ Ok (x, y) → (r ≡ Ok x) × (s ≡ Ok y)
both_ok {X} {Y} (Ok u) (Ok v) x y h = let e : ◌≡◌ {A = X × Y} (u, v) (x, y) = cc in (ap (λ p. Ok p.0) e, ap (λ p. Ok p.1) e)
both_ok (Ok u) (Err f) x y h = cc
both_ok (Err f) s x y h = cc

read_ok : (s : Result (List ℕ × List ℕ) Fault) (ws : List ℕ) (r : ℕ) → in_shape s ≡ Ok (ws, r) → (a : List ℕ) × (f : List ℕ) × (s ≡ Ok (a, f)) × (numbers_of 1 65535 (fields a) ≡ Ok ws) × (read_field 1 4294967295 f ≡ Ok r)
read_ok (Ok p) ws r h =
    let q = both_ok (weights_of p.0) (drawn_of p.1) ws r h in
    (p.0, p.1, refl, at_ok 1 (numbers_of 1 65535 (fields p.0)) ws q.0, at_ok 2 (read_field 1 4294967295 p.1) r q.1)
read_ok (Err f) ws r h = cc

numerals_length : (limit : ℕ) (fs : List (List ℕ)) (ns : List ℕ) → Numerals limit fs ns → length fs ≡ length ns
numerals_length limit [] [] e = refl
numerals_length limit [] (n ∷ ns) e = absurd e
numerals_length limit (f ∷ fs) [] e = absurd e
numerals_length limit (f ∷ fs) (n ∷ ns) e = ap (λ k. suc k) (numerals_length limit fs ns e.1)

some_field : (bs : List ℕ) → 0 < length (fields bs)
some_field bs = omega (arith, ap length (split_is_fields bs), length-slice_split (λ b. eqb b 44) bs)

ended : (a b : List ℕ) → end_by 10 (a ∷ b ∷ []) ≡ a ++ (10 ∷ (b ++ (10 ∷ [])))
ended a b = append_assoc a (10 ∷ []) (end_by 10 (b ∷ [])) ∙ ap (λ l. a ++ (10 ∷ l)) (append-nil (b ++ (10 ∷ [])))

pub written_from_read : (bs ws : List ℕ) (r : ℕ) → exercise_of bs ≡ Ok (ws, r) → Written ws r bs
written_from_read bs ws r h =
    let p = read_ok (shape_of bs) ws r h in
    let a = p.0 in
    let f = p.1 in
    let s = shape_ok bs a f p.2 in
    let numerals : Numerals 65535 (fields a) ws = (numbers_exact 1 65535 (fields a) ws).0 p.3 in
    let line : join_by 44 (fields a) ≡ a = (fields_join a).0 in
    let last : f ≡ s.second = sym (ap (join_by 44) s.one) ∙ (fields_join s.second).0 in
    let whole : end_by 10 (lines bs) ≡ join_by 44 (fields a) ++ (10 ∷ (f ++ (10 ∷ []))) = ap (end_by 10) s.two ∙ ended a s.second ∙ ap (λ l. l ++ (10 ∷ (s.second ++ (10 ∷ [])))) (sym line) ∙ ap (λ l. join_by 44 (fields a) ++ (10 ∷ (l ++ (10 ∷ [])))) (sym last) in
    record {
      short = s.short;
      some_weight = omega (arith, some_field a, numerals_length 65535 (fields a) ws numerals);
      digits = fields a;
      last = f;
      weights = numerals;
      drawn = numeral_from_read 1 4294967295 f r p.4;
      text = elim (lines_join bs).0 [ inl e ↦ inr (sym e ∙ whole) | inr e ↦ inl (append_cancel_right bs (join_by 44 (fields a) ++ (10 ∷ f)) (10 ∷ []) (sym e ∙ whole ∙ sym (append_assoc (join_by 44 (fields a)) (10 ∷ f) (10 ∷ [])))) ];
    }

-- the lines of two pieces, with or without the last line feed
two_pieces : (bs a b : List ℕ) → Lacks 10 a → Lacks 10 b → 0 < length b → (bs ≡ a ++ (10 ∷ b)) ⊎ (bs ≡ a ++ (10 ∷ (b ++ (10 ∷ [])))) → lines bs ≡ a ∷ b ∷ []
two_pieces bs a b la lb some (inl e) = ap lines (e ∙ sym (ap (λ l. l ++ b) (append-nil (a ++ (10 ∷ []))) ∙ append_assoc a (10 ∷ []) b)) ∙ (lines_alone (a ∷ []) b (la, tt) lb).1 some
two_pieces bs a b la lb some (inr e) = ap lines (e ∙ sym (ended a b)) ∙ (lines_alone (a ∷ b ∷ []) [] (la, (lb, tt)) tt).0

joined_fields : (fs : List (List ℕ)) → 0 < length fs → AllByRecursion (Lacks 44) fs → fields (join_by 44 fs) ≡ fs
joined_fields [] some l = absurd (omega arith)
joined_fields (f ∷ fs) some l = fields_alone f fs l

pub read_from_written : (bs ws : List ℕ) (r : ℕ) → Written ws r bs → exercise_of bs ≡ Ok (ws, r)
read_from_written bs ws r w =
    let a = join_by 44 w.digits in
    let f = w.last in
    let two : lines bs ≡ a ∷ f ∷ [] = two_pieces bs a f (join_lacks 10 44 w.digits (λ e. absurd (omega arith)) (numerals_lack 10 65535 w.digits ws (omega arith) w.weights)) (digits_lack 10 f (omega arith) w.drawn.only_digits) w.drawn.some_digit w.text in
    let one : fields f ≡ f ∷ [] = fields_alone f [] (digits_lack 44 f (omega arith) w.drawn.only_digits, tt) in
    let all : fields a ≡ w.digits = joined_fields w.digits (omega (arith, w.some_weight, numerals_length 65535 w.digits ws w.weights)) (numerals_lack 44 65535 w.digits ws (omega arith) w.weights) in
    let shape : shape_of bs ≡ Ok (a, f) = ap (λ t. cond t (Err TooLong) (in_two (two_lines (lines bs)))) (le-ltb 32768 (length bs) w.short) ∙ ap (λ ls. in_two (two_lines ls)) two ∙ ap (λ fs. beside a (only_field fs)) one in
    let numbers : weights_of a ≡ Ok ws = ap (λ fs. at_line 1 (numbers_of 1 65535 fs)) all ∙ ap (at_line 1) ((numbers_exact 1 65535 w.digits ws).1 w.weights) in
    let number : drawn_of f ≡ Ok r = ap (at_line 2) (read_from_numeral 1 4294967295 f r w.drawn) in
    ap in_shape shape ∙ ap (λ x. both x (drawn_of f)) numbers ∙ ap (both (Ok ws)) number

-- what is printed for an exercise that is written
pub written_report : (bs : List ℕ) (r : Result (String Global) AllocError) → IfOk r (λ text. string_bytes text ≡ report_of bs) → IfOk r (λ text. (ws : List ℕ) (n : ℕ) → Written ws n bs → string_bytes text ≡ result_text (answer_of ws n))
written_report bs (Ok text) e = λ ws n w. e ∙ ap (λ x. result_text (in_exercise x)) (read_from_written bs ws n w)
written_report bs (Err f) e = tt
