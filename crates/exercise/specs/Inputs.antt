-- What an input says: two lines, the weights and the drawn number. Assumes nothing.
use Rattle.std.specs.Prelude.{ℕ, cond, List, [], ◌∷◌, length, Some, None, Ok, Err, Option, Result, nat_lt}
use Rattle.std.specs.Borrow.{Bor}
use Rattle.fields.specs.declared.fault.FieldFault.{FieldFault}
use Rattle.fields.specs.Cuts.{fields, lines}
use Rattle.fields.specs.Numbers.{read_field}
use Rattle.fields.specs.Lists.{numbers_of}
use Rattle.exercise.specs.declared.fault.Fault.{Fault}
use Rattle.exercise.specs.declared.fault.Fault.TheVariants.{TooLong, Shape, Field}

-- what two references point to
abbrev pub pair_of : Bor (List ℕ) × Bor (List ℕ) → List ℕ × List ℕ
pair_of p = (p.0.now, p.1.now)

abbrev pub two_lines : List (List ℕ) → Option (List ℕ × List ℕ)
two_lines [] = None
two_lines (a ∷ []) = None
two_lines (a ∷ b ∷ []) = Some (a, b)
two_lines (a ∷ b ∷ c ∷ ls) = None

abbrev pub only_field : List (List ℕ) → Option (List ℕ)
only_field [] = None
only_field (f ∷ []) = Some f
only_field (f ∷ g ∷ fs) = None

-- the line of the weights with the field of the drawn number, where there is one
abbrev pub beside : List ℕ → Option (List ℕ) → Result (List ℕ × List ℕ) Fault
beside w None = Err Shape
beside w (Some f) = Ok (w, f)

abbrev pub in_two : Option (List ℕ × List ℕ) → Result (List ℕ × List ℕ) Fault
in_two None = Err Shape
in_two (Some p) = beside p.0 (only_field (fields p.1))

-- the line of the weights and the field of the drawn number
abbrev pub shape_of : List ℕ → Result (List ℕ × List ℕ) Fault
shape_of bs = cond (nat_lt 32768 (length bs)) (Err TooLong) (in_two (two_lines (lines bs)))

-- a field's fault, told with its line
abbrev pub at_line : {X : Type 0} → ℕ → Result X FieldFault → Result X Fault
at_line k (Ok x) = Ok x
at_line k (Err f) = Err (Field k f)

abbrev pub weights_of : List ℕ → Result (List ℕ) Fault
weights_of line = at_line 1 (numbers_of 1 65535 (fields line))

abbrev pub drawn_of : List ℕ → Result ℕ Fault
drawn_of field = at_line 2 (read_field 1 4294967295 field)

-- the second is looked at where the first was read
abbrev pub both : {X Y : Type 0} → Result X Fault → Result Y Fault → Result (X × Y) Fault
both (Ok x) (Ok y) = Ok (x, y)
both (Ok x) (Err f) = Err f
both (Err f) r = Err f

abbrev pub in_shape : Result (List ℕ × List ℕ) Fault → Result (List ℕ × ℕ) Fault
in_shape (Ok p) = both (weights_of p.0) (drawn_of p.1)
in_shape (Err f) = Err f

-- the weights and the drawn number
abbrev pub exercise_of : List ℕ → Result (List ℕ × ℕ) Fault
exercise_of bs = in_shape (shape_of bs)
