-- The written forms of a line, with no word of how it is read. Assumes nothing.
use Rattle.std.specs.Prelude.{◌≡◌, ℕ, ◌≤◌, List, [], ◌∷◌, length, Some, None, Ok, Option}
use Rattle.fields.specs.Numbers.{Numeral}
use Rattle.fields.specs.Laws.{join_by}
use Rattle.logs.specs.declared.line.Program.{Program}
use Rattle.logs.specs.declared.line.Program.TheVariants.{Locate, Lift}
use Rattle.logs.specs.declared.line.Line.{Line}
use Rattle.logs.specs.declared.line.Line.TheVariants.{Map, Seed, Record, Start, Advance, Weigh, Resample, Share, Path, Finish}
use Rattle.logs.specs.Lines.{line_of}

-- a letter and numbers, each with its limit before it
abbrev pub Parts : Type 0
Parts = ℕ × List (ℕ × ℕ)

abbrev pub locate_has : Program → Parts → Option Parts
locate_has Locate w = Some w
locate_has Lift w = None

abbrev pub lift_has : Program → Parts → Option Parts
lift_has Locate w = None
lift_has Lift w = Some w

-- what is written of a line, where the program has it
abbrev pub parts_of : Program → Line → Option Parts
parts_of p (Map row bits) = locate_has p (77, (31, row) ∷ (4294967295, bits) ∷ [])
parts_of p (Seed value) = locate_has p (71, (4294967295, value) ∷ [])
parts_of p (Record value) = lift_has p (68, (4294967295, value) ∷ [])
parts_of p (Start count) = Some (83, (65535, count) ∷ [])
parts_of p (Advance command) = Some (65, (255, command) ∷ [])
parts_of p (Weigh reading) = Some (87, (255, reading) ∷ [])
parts_of p Resample = Some (82, [])
parts_of p (Share None code) = Some (69, (65535, code) ∷ [])
parts_of p (Share (Some lag) code) = Some (69, (65535, lag) ∷ (65535, code) ∷ [])
parts_of p (Path particle) = Some (80, (65535, particle) ∷ [])
parts_of p Finish = Some (70, [])

-- the fields are numerals of the numbers, each within its limit
abbrev pub Writes : List (ℕ × ℕ) → List (List ℕ) → Type 0
Writes [] [] = Unit {0}
Writes [] (f ∷ fs) = ⊥
Writes (n ∷ ns) [] = ⊥
Writes (n ∷ ns) (f ∷ fs) = Numeral n.0 f n.1 × Writes ns fs

-- bs is the letter and numerals of the numbers, with any leading zeros, parted by commas, at most 100 bytes
pub record Form (p : Program) (l : Line) (bs : List ℕ) : Type 0 where
  pub short : length bs ≤ 100
  pub parts : Parts
  pub has : parts_of p l ≡ Some parts
  pub digits : List (List ℕ)
  pub numbers : Writes parts.1 digits
  pub text : bs ≡ join_by 44 ((parts.0 ∷ []) ∷ digits)

-- a line is read as l exactly when it is one of the written forms of l
abbrev pub LinesExact : Type 0
LinesExact = (p : Program) (bs : List ℕ) (l : Line) → (line_of p bs ≡ Ok l → Form p l bs) × (Form p l bs → line_of p bs ≡ Ok l)
