-- The number that a fault prints, the place that it names, and its line of the report. Assumes nothing.
use Rattle.std.specs.Prelude.{ℕ, List, ◌++◌, Some, None, codes, decimal, Option}
use Rattle.refusals.specs.Numbers.{number_of}
use Rattle.fields.specs.Faults as field
use Rattle.fields.specs.declared.list.ListFault.{ListFault}
use Rattle.fields.specs.declared.list.ListFault.TheVariants as list
use Rattle.exercise.specs.declared.fault.Fault.{Fault}
use Rattle.exercise.specs.declared.fault.Fault.TheVariants.{TooLong, Shape, Field, Call}
use Rattle.exercise.specs.declared.fault.Failure.{Failure}
use Rattle.exercise.specs.declared.fault.Failure.TheVariants.{Memory, Told}

abbrev pub fault_number : Fault → ℕ
fault_number TooLong = 1
fault_number Shape = 4
fault_number (Field line f) = field.fault_number f
fault_number (Call e) = number_of e

-- the line and the field, both from 1
abbrev pub place_of : Fault → Option (ℕ × ℕ)
place_of TooLong = None
place_of Shape = None
place_of (Field line f) = Some (line, field.place_of f)
place_of (Call e) = None

-- the end of the line
abbrev pub place_text : Option (ℕ × ℕ) → List ℕ
place_text None = codes "\n"
place_text (Some p) = codes "," ++ (decimal p.0 ++ (codes "," ++ (decimal p.1 ++ codes "\n")))

abbrev pub fault_text : Fault → List ℕ
fault_text f = codes "!," ++ (decimal (fault_number f) ++ place_text (place_of f))

-- what stops the reading of a line's numbers
abbrev pub failure_in : ℕ → ListFault → Failure
failure_in line (list.Memory e) = Memory e
failure_in line (list.Field f) = Told (Field line f)
