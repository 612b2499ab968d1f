-- Numbers as they are written. Assumes nothing.
use Rattle.std.specs.Prelude.{ℕ, List, ◌∷◌, decimal}
use Rattle.std.specs.List.{flat_map}

-- a comma before each number
abbrev pub each_after_comma : List ℕ → List ℕ
each_after_comma ns = flat_map (λ n. 44 ∷ decimal n) ns
