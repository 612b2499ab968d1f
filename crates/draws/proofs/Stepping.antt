-- The births and the moves of a row, place by place. Assumes nothing.
use Rattle.std.proofs.Common.{◌≡◌, ℕ, zero, suc, ◌+◌, ◌<◌, List, [], ◌∷◌, length, get_or, sym, refl, ap, ◌∙◌, zero-add, not-suc-le-zero, arith}
use Rattle.std.proofs.lemmas.List.FromFn.{length-map-range_with_len, get_or-map-range_with_len}
use Rattle.std.proofs.lemmas.List.{same_lists}
use Rattle.sources.specs.Supplies.{Supply}
use Rattle.models.specs.Meanings.{Meaning}
use Rattle.draws.specs.Rows.{births, moves, moves_from}

module _ {S : Type 0} (m : Meaning S) (s : Supply) where
  pub births_by_place : (n : ℕ) (row : List S) → length row ≡ n → ((k : ℕ) (d : S) → k < n → get_or row k d ≡ m.birth (s.to_come k)) → row ≡ births m s n
  births_by_place n row long each =
      let birth : ℕ → S = λ k. m.birth (s.to_come k) in
      same_lists row (births m s n) (long ∙ sym (length-map-range_with_len birth 0 n)) (λ k d h. let l : k < n = omega arith in each k d l ∙ sym (get_or-map-range_with_len birth 0 n k k d l (omega arith)))

  module _ (c : ℕ) where
    length-moves_from : (i : ℕ) (xs : List S) → length (moves_from m c s i xs) ≡ length xs
    length-moves_from i [] = refl
    length-moves_from i (x ∷ xs) = ap suc (length-moves_from (i + 1) xs)

    moved_at : (xs : List S) (i k : ℕ) (d : S) → k < length xs → get_or (moves_from m c s i xs) k d ≡ m.move (get_or xs k d) c (s.to_come (i + k))
    moved_at [] i k d h = absurd (not-suc-le-zero h)
    moved_at (x ∷ xs) i zero d h = ap (λ (j : ℕ). m.move x c (s.to_come j)) (omega arith)
    moved_at (x ∷ xs) i (suc k) d h = moved_at xs (i + 1) k d (omega arith) ∙ ap (λ (j : ℕ). m.move (get_or xs k d) c (s.to_come j)) (omega arith)

    pub moves_by_place : (old row : List S) → length row ≡ length old → ((k : ℕ) (d : S) → k < length old → get_or row k d ≡ m.move (get_or old k d) c (s.to_come k)) → row ≡ moves m c s old
    moves_by_place old row long each =
        same_lists row (moves m c s old) (long ∙ sym (length-moves_from 0 old)) (λ k d h. let l : k < length old = omega arith in each k d l ∙ sym (moved_at old 0 k d l ∙ ap (λ (j : ℕ). m.move (get_or old k d) c (s.to_come j)) (zero-add k)))
