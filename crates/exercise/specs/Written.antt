-- How an exercise is written, with no word of how it is read. Assumes nothing.
use Rattle.std.specs.Prelude.{◌≡◌, ℕ, ◌<◌, ◌≤◌, ◌⊎◌, List, [], ◌∷◌, ◌++◌, length}
use Rattle.fields.specs.Numbers.{Numeral}
use Rattle.fields.specs.Lists.{Numerals}
use Rattle.fields.specs.Laws.{join_by}

-- bs is the weights ws parted by commas, a line feed, the drawn number r, and a line feed that may lack
pub record Written (ws : List ℕ) (r : ℕ) (bs : List ℕ) : Type 0 where
  pub short : length bs ≤ 32768
  pub some_weight : 0 < length ws
  pub digits : List (List ℕ)
  pub last : List ℕ
  pub weights : Numerals 65535 digits ws
  pub drawn : Numeral 4294967295 last r
  pub text : (bs ≡ join_by 44 digits ++ (10 ∷ last)) ⊎ (bs ≡ join_by 44 digits ++ (10 ∷ (last ++ (10 ∷ []))))
