-- What the fields of a line say. Assumes nothing.
use Rattle.std.specs.Prelude.{◌≡◌, ℕ, ◌+◌, List, [], ◌∷◌, Ok, Err, vec_items, Result, Vec}
use Rattle.std.specs.declared.alloc.Global.{Global}
use Rattle.fields.specs.declared.fault.FieldFault.{FieldFault}
use Rattle.fields.specs.declared.list.ListFault.{ListFault}
use Rattle.fields.specs.declared.list.ListFault.TheVariants.{Memory, Field}
use Rattle.fields.specs.Numbers.{Numeral, read_field}

-- a number before others, where all of them can be read; else the leftmost fault
abbrev pub before_others : {F : Type 0} → Result ℕ F → Result (List ℕ) F → Result (List ℕ) F
before_others (Ok n) (Ok ns) = Ok (n ∷ ns)
before_others (Ok n) (Err f) = Err f
before_others (Err f) r = Err f

-- the numbers of fields, of which the first is field k of its line
abbrev pub numbers_of : ℕ → ℕ → List (List ℕ) → Result (List ℕ) FieldFault
numbers_of k limit [] = Ok []
numbers_of k limit (f ∷ fs) = before_others (read_field k limit f) (numbers_of (k + 1) limit fs)

-- the fields are numerals of the numbers, one by one
abbrev pub Numerals : ℕ → List (List ℕ) → List ℕ → Type 0
Numerals limit [] [] = Unit {0}
Numerals limit [] (n ∷ ns) = ⊥
Numerals limit (f ∷ fs) [] = ⊥
Numerals limit (f ∷ fs) (n ∷ ns) = Numeral limit f n × Numerals limit fs ns

-- r is what is to be read, unless memory was wanting
abbrev pub Reads : Result (Vec ℕ Global) ListFault → Result (List ℕ) FieldFault → Type 0
Reads (Ok v) whole = whole ≡ Ok (vec_items v)
Reads (Err (Memory e)) whole = Unit {0}
Reads (Err (Field f)) whole = whole ≡ Err f
