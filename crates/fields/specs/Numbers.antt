-- What a number field says. Assumes nothing.
use Rattle.std.specs.Prelude.{◌≡◌, ℕ, ◌<◌, ◌≤◌, true, cond, List, [], ◌∷◌, length, Some, None, Ok, Err, Option, Result, nat_le}
use Rattle.std.specs.Str.Parse.{digits_value}
use Rattle.std.specs.Str.{all_ascii_digits}
use Rattle.fields.specs.declared.fault.FieldFault.{FieldFault}
use Rattle.fields.specs.declared.fault.FieldFault.TheVariants.{Empty, NotDigit, AboveLimit}

-- one digit or more, which stand for n in base ten, and n is at most the limit
pub record Numeral (limit : ℕ) (ds : List ℕ) (n : ℕ) : Type 0 where
  pub some_digit : 0 < length ds
  pub only_digits : all_ascii_digits ds ≡ true
  pub stands_for : digits_value 10 ds ≡ n
  pub at_most : n ≤ limit

-- the number that the digits stand for, where it is at most the limit
abbrev pub within : ℕ → List ℕ → Option ℕ
within limit ds = cond (nat_le (digits_value 10 ds) limit) (Some (digits_value 10 ds)) None

-- field k, whose number may be at most the limit
abbrev pub read_field : ℕ → ℕ → List ℕ → Result ℕ FieldFault
read_field k limit [] = Err (Empty k)
read_field k limit (b ∷ bs) = cond (all_ascii_digits (b ∷ bs)) (cond (nat_le (digits_value 10 (b ∷ bs)) limit) (Ok (digits_value 10 (b ∷ bs))) (Err (AboveLimit k))) (Err (NotDigit k))
