-- The lines that a program reads. Assumes nothing.
use Rattle.std.specs.Prelude.{ℕ, cond, List, [], ◌∷◌, length, Some, None, Ok, Err, Option, Result, ◌==◌, nat_lt}
use Rattle.std.specs.Borrow.{Bor}
use Rattle.std.specs.Result.{result_map_both}
use Rattle.fields.specs.declared.fault.FieldFault.{FieldFault}
use Rattle.logs.specs.declared.fault.LineFault.{LineFault}
use Rattle.logs.specs.declared.fault.LineFault.TheVariants.{TooLong, UnknownLetter, FieldCount, Field}
use Rattle.logs.specs.declared.line.Arguments.{Arguments}
use Rattle.logs.specs.declared.line.Arguments.TheVariants.{Zero, One, Two, More}
use Rattle.logs.specs.declared.line.Line.{Line}
use Rattle.logs.specs.declared.line.Line.TheVariants as line
use Rattle.fields.specs.Cuts.{fields}
use Rattle.fields.specs.Numbers.{read_field}
use Rattle.logs.specs.declared.line.Program.{Program}
use Rattle.logs.specs.declared.line.Program.TheVariants.{Locate, Lift}
use Rattle.logs.specs.declared.line.Letter.{Letter}
use Rattle.logs.specs.declared.line.Letter.TheVariants.{Map, Seed, Record, Start, Advance, Weigh, Resample, Share, Path, Finish}

abbrev pub locate_only : Program → Letter → Option Letter
locate_only Locate l = Some l
locate_only Lift l = None

abbrev pub lift_only : Program → Letter → Option Letter
lift_only Locate l = None
lift_only Lift l = Some l

-- the letters, by their codes: M G D S A W R E P F
abbrev pub letter_of : Program → ℕ → Option Letter
letter_of p c =
    cond (c == 77) (locate_only p Map)
    (cond (c == 71) (locate_only p Seed)
    (cond (c == 68) (lift_only p Record)
    (cond (c == 83) (Some Start)
    (cond (c == 65) (Some Advance)
    (cond (c == 87) (Some Weigh)
    (cond (c == 82) (Some Resample)
    (cond (c == 69) (Some Share)
    (cond (c == 80) (Some Path)
    (cond (c == 70) (Some Finish) None)))))))))

-- a field's fault, carried whole
abbrev pub in_line : {X : Type 0} → Result X FieldFault → Result X LineFault
in_line r = result_map_both (λ x. x) (λ f. Field f) r

-- the second number is read where the first was
abbrev pub both : {X Y : Type 0} → Result X LineFault → Result Y LineFault → Result (X × Y) LineFault
both (Ok x) (Ok y) = Ok (x, y)
both (Ok x) (Err f) = Err f
both (Err e) r = Err e

abbrev pub become : {X : Type 0} → (X → Line) → Result X LineFault → Result Line LineFault
become f r = result_map_both f (λ e. e) r

abbrev pub map_arguments : {X Y : Type 0} → (X → Y) → Arguments X → Arguments Y
map_arguments f Zero = Zero
map_arguments f (One x) = One (f x)
map_arguments f (Two x y) = Two (f x) (f y)
map_arguments f More = More

-- the texts that references to fields point to
abbrev pub texts : Arguments (Bor (List ℕ)) → Arguments (List ℕ)
texts a = map_arguments (λ x. x.now) a

abbrev pub arguments_of : {X : Type 0} → List X → Arguments X
arguments_of [] = Zero
arguments_of (a ∷ []) = One a
arguments_of (a ∷ b ∷ []) = Two a b
arguments_of (a ∷ b ∷ c ∷ fs) = More

abbrev pub no_number : Arguments (List ℕ) → Result (Unit {0}) LineFault
no_number Zero = Ok tt
no_number (One a) = Err FieldCount
no_number (Two a b) = Err FieldCount
no_number More = Err FieldCount

abbrev pub one_number : ℕ → Arguments (List ℕ) → Result ℕ LineFault
one_number limit Zero = Err FieldCount
one_number limit (One a) = in_line (read_field 2 limit a)
one_number limit (Two a b) = Err FieldCount
one_number limit More = Err FieldCount

abbrev pub two_numbers : ℕ → ℕ → Arguments (List ℕ) → Result (ℕ × ℕ) LineFault
two_numbers limit other Zero = Err FieldCount
two_numbers limit other (One a) = Err FieldCount
two_numbers limit other (Two a b) = both (in_line (read_field 2 limit a)) (in_line (read_field 3 other b))
two_numbers limit other More = Err FieldCount

-- a code alone, or a lag and a code
abbrev pub share_of : Arguments (List ℕ) → Result Line LineFault
share_of Zero = Err FieldCount
share_of (One a) = become (line.Share None) (in_line (read_field 2 65535 a))
share_of (Two a b) = become (λ p. line.Share (Some p.0) p.1) (both (in_line (read_field 2 65535 a)) (in_line (read_field 3 65535 b)))
share_of More = Err FieldCount

-- the numbers that belong to each letter, with their limits
abbrev pub line_by : Letter → Arguments (List ℕ) → Result Line LineFault
line_by Map fs = become (λ p. line.Map p.0 p.1) (two_numbers 31 4294967295 fs)
line_by Seed fs = become line.Seed (one_number 4294967295 fs)
line_by Record fs = become line.Record (one_number 4294967295 fs)
line_by Start fs = become line.Start (one_number 65535 fs)
line_by Advance fs = become line.Advance (one_number 255 fs)
line_by Weigh fs = become line.Weigh (one_number 255 fs)
line_by Resample fs = become (λ _. line.Resample) (no_number fs)
line_by Share fs = share_of fs
line_by Path fs = become line.Path (one_number 65535 fs)
line_by Finish fs = become (λ _. line.Finish) (no_number fs)

abbrev pub line_by_known : Option Letter → Arguments (List ℕ) → Result Line LineFault
line_by_known None fs = Err UnknownLetter
line_by_known (Some l) fs = line_by l fs

-- the first field, if it is one letter of the program
abbrev pub only_letter : Program → List ℕ → Option Letter
only_letter p [] = None
only_letter p (c ∷ []) = letter_of p c
only_letter p (c ∷ d ∷ cs) = None

abbrev pub from_fields : Program → List (List ℕ) → Result Line LineFault
from_fields p [] = Err UnknownLetter
from_fields p (f ∷ fs) = line_by_known (only_letter p f) (arguments_of fs)

-- what a line without its line feed says to a program
abbrev pub line_of : Program → List ℕ → Result Line LineFault
line_of p bs = cond (nat_lt 100 (length bs)) (Err TooLong) (from_fields p (fields bs))
