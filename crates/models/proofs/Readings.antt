-- The expected reading counts the free cells ahead. Assumes nothing.
use Rattle.std.proofs.Common.{◌≡◌, ℕ, ◌+◌, ◌-◌, ◌<◌, ◌≤◌, true, false, List, is_some, None, ap, arith, rules}
use Rattle.std.specs.List.{range_with_len}
use Rattle.std.proofs.lemmas.List.FromFn.{get_or-range_with_len}
use Rattle.std.proofs.lemmas.List.Sums.{prefix_len-le-length, prefix_len_passes, prefix_len_stops}
use Rattle.models.specs.Poses.{on_grid}
use Rattle.models.specs.Grids.{ahead, further, unless_wall, free_at, expected_reading}
use Rattle.models.specs.Readings.{FreeAhead}
use Rattle.models.specs.declared.pose.Heading.{Heading}
use Rattle.models.specs.declared.pose.Heading.TheVariants.{North, East, South, West}
use Rattle.models.specs.declared.pose.Pose.{Pose}

-- nothing is inside 32 cells ahead
outside : (h : Heading) (x y : ℕ) → x < 32 → y < 32 → further h x y 32 ≡ None
outside North x y p q = search rules
outside East x y p q = search rules
outside South x y p q = search rules
outside West x y p q = search rules

not_free_at_32 : (rows : List ℕ) (p : Pose) → on_grid p ≡ true → free_at rows p 32 ≡ false
not_free_at_32 rows p h =
    let e : ahead p 32 ≡ None = search (rules, outside) in
    ap (λ o. is_some (unless_wall rows o)) e

reading_most : (rows : List ℕ) (p : Pose) → expected_reading rows p ≤ 31
unfolding expected_reading
reading_most rows p = prefix_len-le-length (free_at rows p) (range_with_len 1 31)

reading_passes : (rows : List ℕ) (p : Pose) (j : ℕ) → j < expected_reading rows p → free_at rows p (1 + j) ≡ true
unfolding expected_reading
reading_passes rows p j h =
    let l : j < 31 = omega (arith, reading_most rows p) in
    rw get_or-range_with_len at (prefix_len_passes (free_at rows p) (range_with_len 1 31) j 0 h)

reading_fails_after : (rows : List ℕ) (p : Pose) → expected_reading rows p < 31 → free_at rows p (1 + expected_reading rows p) ≡ false
unfolding expected_reading
reading_fails_after rows p h =
    rw get_or-range_with_len at (prefix_len_stops (free_at rows p) (range_with_len 1 31) 0 h)

pub free_ahead : (rows : List ℕ) (p : Pose) → on_grid p ≡ true → FreeAhead rows p (expected_reading rows p)
free_ahead rows p h =
    let most = reading_most rows p in
    let passes = reading_passes rows p in
    let fails = reading_fails_after rows p in
    let edge = not_free_at_32 rows p h in
    record {
      free = λ d pos le. grind (arith, passes (d - 1));
      blocked = grind arith;
      known = omega arith;
    }
