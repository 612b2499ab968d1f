-- What a lawful model draws are states. Assumes nothing.
use Rattle.std.proofs.Common.{◌≡◌, ℕ, zero, suc, ◌+◌, true, List, [], ◌∷◌, map, refl}
use Rattle.std.specs.List.{range_with_len}
use Rattle.std.proofs.lemmas.Bool.{and_parts, and_from}
use Rattle.sources.specs.Supplies as supplies
use Rattle.sources.specs.Supplies.{Supply}
use Rattle.models.specs.Kinds.{Kind}
use Rattle.models.specs.Meanings.{Meaning, Lawful}
use Rattle.draws.specs.Rows.{births, moves_from, all_states}

module _ {S : Type 0} (k : Kind S) (m : Meaning S) (lawful : Lawful k m) (s : Supply) (numbers : supplies.Lawful s) where
  born_from : (a n : ℕ) → all_states k (map (λ j. m.birth (s.to_come j)) (range_with_len a n)) ≡ true
  born_from a zero = refl
  born_from a (suc n) = and_from (k.is (m.birth (s.to_come a))) _ (lawful.births (s.to_come a) (numbers.below a)) (born_from (a + 1) n)

  pub births_are_states : (n : ℕ) → all_states k (births m s n) ≡ true
  births_are_states n = born_from 0 n

  pub moves_are_states : (c : ℕ) → m.commands c ≡ true → (i : ℕ) (xs : List S) → all_states k xs ≡ true → all_states k (moves_from m c s i xs) ≡ true
  moves_are_states c known i [] h = refl
  moves_are_states c known i (x ∷ xs) h =
      let both = and_parts (k.is x) (all_states k xs) h in
      and_from (k.is (m.move x c (s.to_come i))) _ (lawful.moves x c (s.to_come i) both.0 known (numbers.below i)) (moves_are_states c known (i + 1) xs both.1)
