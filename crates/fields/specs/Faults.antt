-- The number that a field's fault prints, and the field that it names. Assumes nothing.
use Rattle.std.specs.Prelude.{ℕ}
use Rattle.fields.specs.declared.fault.FieldFault.{FieldFault}
use Rattle.fields.specs.declared.fault.FieldFault.TheVariants.{Empty, NotDigit, AboveLimit}

abbrev pub fault_number : FieldFault → ℕ
fault_number (Empty k) = 5
fault_number (NotDigit k) = 6
fault_number (AboveLimit k) = 7

abbrev pub place_of : FieldFault → ℕ
place_of (Empty k) = k
place_of (NotDigit k) = k
place_of (AboveLimit k) = k
