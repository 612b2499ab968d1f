-- What lines and fields are, with no word of how they are found. Assumes nothing.
use Rattle.std.specs.Prelude.{◌≡◌, ℕ, ◌<◌, ◌⊎◌, List, [], ◌∷◌, ◌++◌, length, Ok, ◌≢◌}
use Rattle.std.specs.List.{AllByRecursion, flat_map, join_with_byte}
use Rattle.fields.specs.Cuts.{fields, lines}
use Rattle.fields.specs.Lists.{numbers_of, Numerals}

-- pieces joined by c
abbrev pub join_by : ℕ → List (List ℕ) → List ℕ
join_by c ps = join_with_byte c ps

-- pieces with c after each
abbrev pub end_by : ℕ → List (List ℕ) → List ℕ
end_by c ps = flat_map (λ p. p ++ (c ∷ [])) ps

-- no byte of p is c
abbrev pub Lacks : ℕ → List ℕ → Type 0
Lacks c p = AllByRecursion (λ b. b ≢ c) p

-- the fields joined by commas are the line, and no field has a comma
abbrev pub FieldsJoin : Type 0
FieldsJoin = (bs : List ℕ) → (join_by 44 (fields bs) ≡ bs) × AllByRecursion (Lacks 44) (fields bs)

-- and they alone: one piece or more without a comma are the fields of what they join to
abbrev pub FieldsAlone : Type 0
FieldsAlone = (p : List ℕ) (ps : List (List ℕ)) → AllByRecursion (Lacks 44) (p ∷ ps) → fields (join_by 44 (p ∷ ps)) ≡ p ∷ ps

-- the lines with a line feed after each are the text, or the text and a last line feed, and no line has a line feed
abbrev pub LinesJoin : Type 0
LinesJoin = (bs : List ℕ) → ((end_by 10 (lines bs) ≡ bs) ⊎ (end_by 10 (lines bs) ≡ bs ++ (10 ∷ []))) × AllByRecursion (Lacks 10) (lines bs)

-- and they alone: pieces without a line feed are the lines of the text that they end in, also where a last piece that is not empty lacks its line feed
abbrev pub LinesAlone : Type 0
LinesAlone =
    (ls : List (List ℕ)) (l : List ℕ) → AllByRecursion (Lacks 10) ls → Lacks 10 l
    → (lines (end_by 10 ls) ≡ ls) × (0 < length l → lines (end_by 10 ls ++ l) ≡ ls ++ (l ∷ []))

-- fields are read as numbers exactly when they are numerals of them
abbrev pub NumbersExact : Type 0
NumbersExact = (k limit : ℕ) (fs : List (List ℕ)) (ns : List ℕ) → (numbers_of k limit fs ≡ Ok ns → Numerals limit fs ns) × (Numerals limit fs ns → numbers_of k limit fs ≡ Ok ns)
