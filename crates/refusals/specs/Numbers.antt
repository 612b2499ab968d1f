-- The number of each refusal. Assumes nothing.
use Rattle.std.specs.Prelude.{ℕ}
use Rattle.refusals.specs.declared.Refusal.{Refusal}
use Rattle.refusals.specs.declared.Refusal.TheVariants.{WrongPhase, OutOfRange, Unknown, NotHeld, NoPlaceLeft, NoNodesLeft, SourceDry, AllZero, NoRoom}

abbrev pub number_of : Refusal → ℕ
number_of WrongPhase = 8
number_of OutOfRange = 9
number_of Unknown = 10
number_of NotHeld = 11
number_of NoPlaceLeft = 12
number_of NoNodesLeft = 13
number_of SourceDry = 14
number_of AllZero = 15
number_of NoRoom = 16
