-- Where the states on a path come from. Assumes nothing.
use Rattle.std.specs.Prelude.{◌≡◌, ℕ, ◌+◌, ◌<◌, ◌⊎◌, List, [], ◌∷◌}
use Rattle.models.specs.Meanings.{Meaning}
use Rattle.filter.specs.Filters.{Pair, PathOf}
use Rattle.filter.specs.Calls.{start, advance}
use Rattle.filter.specs.Makings.{Making}

-- one of the list is so
abbrev pub OneOf : {A : Type 0} → (A → Type 0) → List A → Type 0
OneOf P [] = ⊥
OneOf P (x ∷ xs) = P x ⊎ OneOf P xs

module _ {S : Type 0} (m : Meaning S) (to_come : ℕ → ℕ) where
  -- the pair was made by a start, as the birth of a number drawn in it
  pub record IsBirth (x : Pair S) (g : Making) : Type 0 where
    pub index : ℕ
    pub made : index < g.count
    pub by_start : g.call ≡ start g.count
    pub serial_is : x.serial ≡ g.first_serial + index
    pub state_is : x.state ≡ m.birth (to_come (g.first_draw + index))

  -- the pair y was made by an advance, as the move of the pair x under its command and a number drawn in it
  pub record IsMove (x y : Pair S) (g : Making) : Type 0 where
    pub index : ℕ
    pub made : index < g.count
    pub command : ℕ
    pub by_advance : g.call ≡ advance command
    pub serial_is : y.serial ≡ g.first_serial + index
    pub state_is : y.state ≡ m.move x.state command (to_come (g.first_draw + index))

  -- the oldest state of the path is a birth, and each later one is a move of the state before it
  abbrev pub Descends : List Making → PathOf S → Type 0
  Descends gs [] = ⊥
  Descends gs (x ∷ []) = OneOf (IsBirth x) gs
  Descends gs (y ∷ x ∷ p) = OneOf (IsMove x y) gs × Descends gs (x ∷ p)
