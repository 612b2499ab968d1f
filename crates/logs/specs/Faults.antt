-- The number that a fault prints, and the field that it names. Assumes nothing.
use Rattle.std.specs.Prelude.{ℕ, Some, None, Option}
use Rattle.refusals.specs.Numbers.{number_of}
use Rattle.fields.specs.Faults.{fault_number, place_of}
use Rattle.logs.specs.declared.fault.LineFault.{LineFault}
use Rattle.logs.specs.declared.fault.LineFault.TheVariants.{TooLong, UnknownLetter, FieldCount, Field}
use Rattle.logs.specs.declared.fault.RunFault.{RunFault}
use Rattle.logs.specs.declared.fault.RunFault.TheVariants.{InputTooLong, Line, Call}

abbrev pub line_number : LineFault → ℕ
line_number TooLong = 2
line_number UnknownLetter = 3
line_number FieldCount = 4
line_number (Field f) = fault_number f

abbrev pub line_place : LineFault → Option ℕ
line_place TooLong = None
line_place UnknownLetter = None
line_place FieldCount = None
line_place (Field f) = Some (place_of f)

abbrev pub run_number : RunFault → ℕ
run_number InputTooLong = 1
run_number (Line f) = line_number f
run_number (Call e) = number_of e

abbrev pub run_place : RunFault → Option ℕ
run_place InputTooLong = None
run_place (Line f) = line_place f
run_place (Call e) = None
