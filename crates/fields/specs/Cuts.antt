-- Bytes cut at a separator. Assumes nothing.
use Rattle.std.specs.Prelude.{ℕ, cond, List, [], ◌∷◌, Some, None, Option, ◌==◌}
use Rattle.std.specs.List.{onto_first}

-- what stands before the first c
abbrev pub front : ℕ → List ℕ → List ℕ
front c [] = []
front c (b ∷ bs) = cond (b == c) [] (b ∷ front c bs)

-- what follows the first c, if there is one
abbrev pub after : ℕ → List ℕ → Option (List ℕ)
after c [] = None
after c (b ∷ bs) = cond (b == c) (Some bs) (after c bs)

-- the pieces between the bytes c; `end` are those of no bytes
abbrev pub pieces : List (List ℕ) → ℕ → List ℕ → List (List ℕ)
pieces end c [] = end
pieces end c (b ∷ bs) = cond (b == c) ([] ∷ pieces end c bs) (onto_first b (pieces end c bs))

-- a line has one field more than commas
abbrev pub fields : List ℕ → List (List ℕ)
fields bs = pieces ([] ∷ []) 44 bs

-- a line ends with a line feed, which the last may lack
abbrev pub lines : List ℕ → List (List ℕ)
lines bs = pieces [] 10 bs

-- the fields in what follows a comma, if there is one
abbrev pub fields_in : Option (List ℕ) → List (List ℕ)
fields_in None = []
fields_in (Some bs) = fields bs

-- the lines in what follows a line feed, if there is one
abbrev pub lines_in : Option (List ℕ) → List (List ℕ)
lines_in None = []
lines_in (Some bs) = lines bs
