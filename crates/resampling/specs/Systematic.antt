-- What a list of parents is that systematic resampling gives, with no word of how it is found. Assumes nothing.
use Rattle.std.specs.Prelude.{◌≡◌, ℕ, ◌+◌, ◌<◌, List, length, slice_index}
use Rattle.std.specs.List.Sorted.{IsNonDecreasing}
use Rattle.resampling.specs.Marks.{mark, Has}
use Rattle.resampling.specs.Children.{children, Fair}

pub record Systematic (ws : List ℕ) (u : ℕ) (ps : List ℕ) : Type 0 where
  -- as many parents as particles
  pub count : length ps ≡ length ws
  -- each new particle's parent has its mark
  pub marked : (k : ℕ) → k < length ws → Has ws (slice_index ps k) (mark ws u k)
  -- and no other particle has that mark
  pub alone : (k i : ℕ) → k < length ws → Has ws i (mark ws u k) → i ≡ slice_index ps k
  pub never_fall : IsNonDecreasing ps
  pub weightless_has_no_child : (i : ℕ) → i < length ws → slice_index ws i ≡ 0 → children ps i (i + 1) ≡ 0
  pub every_run_of_neighbours_gets_its_share : Fair ws ps
  -- all children together are as many as the particles
  pub children_in_all : children ps 0 (length ws) ≡ length ws
