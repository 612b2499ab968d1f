use Rattle.std.proofs.Common.{◌≡◌, ◌+◌, zero, suc, rules, refl, ℕ, Bool, true, false, not, cond, arith, Some, Option}
use Rattle.std.specs.List.{range_with_len, prefix_len, find}
use Rattle.std.specs.Option.{unwrap_or}
use Rattle.std.proofs.lemmas.Bool.Decides.{nat_tests}
use Rattle.std.proofs.lemmas.Iterator.{YieldsList-from_range}
use Rattle.std.proofs.lemmas.Iterator.Adapters.{option_map_id}
use Rattle.std.proofs.lemmas.Iterator.Search.{find_from_yields_List}
use Rattle.models.specs.Grids.{expected_reading, free_at}
use Rattle.models.proofs.grid.Grid.expected_reading.Goals as goal

-- the first of n numbers whose next one fails stands behind as many as pass
first_failure : (p : ℕ → Bool) (a n : ℕ) → unwrap_or (find (λ d. not (p (d + 1))) (range_with_len a n)) (a + n) ≡ a + prefix_len p (range_with_len (a + 1) n)
first_failure p a zero = refl
first_failure p a (suc n) = go (p (a + 1)) (first_failure p (a + 1) n)
  where
    found : Option ℕ
    found = find (λ d. not (p (d + 1))) (range_with_len (a + 1) n)

    rest : ℕ
    rest = prefix_len p (range_with_len (a + 1 + 1) n)

    go : (b : Bool) → unwrap_or found (a + 1 + n) ≡ a + 1 + rest → unwrap_or (cond (not b) (Some a) found) (a + suc n) ≡ a + cond b (1 + rest) 0
    go true h = grind arith
    go false h = omega arith

pub returns : goal.returns
unfolding expected_reading
returns c =
    let free : ℕ → Bool = free_at c.args.self.now.rows c.args.p.pose in
    let first = first_failure free 0 31 in
    let same = option_map_id c.find.result in
    let found = find_from_yields_List (λ d. not (free (d + 1))) _ _ c.find.result c.find.ensures.ran (YieldsList-from_range 0 31 31 refl refl) (λ x b q k. search rules) in
    grind (arith, nat_tests)
