-- Why a line is refused: the first reason that fits, with no word of how the line is read. Assumes nothing.
use Rattle.std.specs.Prelude.{◌≡◌, ℕ, ◌+◌, ◌<◌, ◌≤◌, true, false, ◌⊎◌, List, [], ◌∷◌, length, Some, Err, ◌≢◌}
use Rattle.std.specs.Str.Parse.{digits_value}
use Rattle.std.specs.List.{AllByRecursion, Any}
use Rattle.std.specs.Str.{all_ascii_digits}
use Rattle.fields.specs.declared.fault.FieldFault.{FieldFault}
use Rattle.fields.specs.declared.fault.FieldFault.TheVariants.{Empty, NotDigit, AboveLimit}
use Rattle.fields.specs.Cuts.{fields}
use Rattle.fields.specs.Numbers.{Numeral}
use Rattle.logs.specs.declared.fault.LineFault.{LineFault}
use Rattle.logs.specs.declared.fault.LineFault.TheVariants.{TooLong, UnknownLetter, FieldCount, Field}
use Rattle.logs.specs.declared.line.Program.{Program}
use Rattle.logs.specs.declared.line.Letter.{Letter}
use Rattle.logs.specs.declared.line.Letter.TheVariants.{Map, Seed, Record, Start, Advance, Weigh, Resample, Share, Path, Finish}
use Rattle.logs.specs.Lines.{letter_of, line_of}

-- the limits of a letter's numbers, for each number of fields that it may have
abbrev pub limits_of : Letter → List (List ℕ)
limits_of Map = (31 ∷ 4294967295 ∷ []) ∷ []
limits_of Seed = (4294967295 ∷ []) ∷ []
limits_of Record = (4294967295 ∷ []) ∷ []
limits_of Start = (65535 ∷ []) ∷ []
limits_of Advance = (255 ∷ []) ∷ []
limits_of Weigh = (255 ∷ []) ∷ []
limits_of Resample = [] ∷ []
limits_of Share = (65535 ∷ []) ∷ (65535 ∷ 65535 ∷ []) ∷ []
limits_of Path = (65535 ∷ []) ∷ []
limits_of Finish = [] ∷ []

-- the fault of field k, which is `bs` and may be at most the limit
abbrev pub FaultHere : ℕ → ℕ → List ℕ → FieldFault → Type 0
FaultHere limit k bs (Empty j) = (j ≡ k) × (bs ≡ [])
FaultHere limit k bs (NotDigit j) = (j ≡ k) × (0 < length bs) × (all_ascii_digits bs ≡ false)
FaultHere limit k bs (AboveLimit j) = (j ≡ k) × (0 < length bs) × (all_ascii_digits bs ≡ true) × (limit < digits_value 10 bs)

-- the leftmost fault of fields, of which the first is field k: those before it are numerals
abbrev pub Leftmost : List ℕ → ℕ → List (List ℕ) → FieldFault → Type 0
Leftmost [] k fs f = ⊥
Leftmost (l ∷ ls) k [] f = ⊥
Leftmost (l ∷ ls) k (a ∷ fs) f = FaultHere l k a f ⊎ ((n : ℕ) × Numeral l a n × Leftmost ls (k + 1) fs f)

-- why the fields after a letter that may have these limits are refused
abbrev pub ReasonAfter : List (List ℕ) → List (List ℕ) → LineFault → Type 0
ReasonAfter forms fs TooLong = ⊥
ReasonAfter forms fs UnknownLetter = ⊥
ReasonAfter forms fs FieldCount = AllByRecursion (λ ls. length ls ≢ length fs) forms
ReasonAfter forms fs (Field f) = Any (λ ls. (length ls ≡ length fs) × Leftmost ls 2 fs f) forms

-- the first field is not one letter of the program
abbrev pub NoLetter : Program → List ℕ → Type 0
NoLetter p first = (c : ℕ) (k : Letter) → first ≡ c ∷ [] → letter_of p c ≢ Some k

-- the letter is one of the program, and what follows is refused
pub record AfterLetter (p : Program) (first : List ℕ) (fs : List (List ℕ)) (f : LineFault) : Type 0 where
  pub code : ℕ
  pub letter : Letter
  pub is : first ≡ code ∷ []
  pub known : letter_of p code ≡ Some letter
  pub reason : ReasonAfter (limits_of letter) fs f

-- why a line of at most 100 bytes is refused, by its first field and the others
abbrev pub ReasonIn : Program → List ℕ → List (List ℕ) → LineFault → Type 0
ReasonIn p first fs TooLong = ⊥
ReasonIn p first fs UnknownLetter = NoLetter p first
ReasonIn p first fs FieldCount = AfterLetter p first fs FieldCount
ReasonIn p first fs (Field f) = AfterLetter p first fs (Field f)

-- the line is too long, or it is not and has another reason
abbrev pub Reason : Program → List ℕ → LineFault → Type 0
Reason p bs f = ((f ≡ TooLong) × (100 < length bs)) ⊎ ((length bs ≤ 100) × (first : List ℕ) × (fs : List (List ℕ)) × (fields bs ≡ first ∷ fs) × ReasonIn p first fs f)

-- a line that is refused gets the first number that fits
abbrev pub FirstReason : Type 0
FirstReason = (p : Program) (bs : List ℕ) (f : LineFault) → line_of p bs ≡ Err f → Reason p bs f
