-- How many different serials there are. Assumes nothing.
use Rattle.std.specs.Prelude.{◌≡◌, ℕ, zero, suc, ◌+◌, ◌<◌, cond, List, length, Option, ◌==◌}
use Rattle.cloud.specs.Links.{Link, link_at}
use Rattle.cloud.specs.Trees.{Tree}

-- the sum of f over the numbers below n
abbrev pub total : (ℕ → ℕ) → ℕ → ℕ
total f zero = 0
total f (suc n) = f n + total f n

-- 1 for a number above 0
unfoldable pub sign : ℕ → ℕ
sign n = cond (n == 0) 0 1

-- how many of the serials below issued are seen
abbrev pub different : (ℕ → ℕ) → ℕ → ℕ
different seen issued = total (λ k. sign (seen k)) issued

-- the serials of the nodes in use, and no others, are seen: then there are as many of them as nodes in use
abbrev pub SerialsCountNodes : Type 0
SerialsCountNodes = (ls : List Link) (head : Option ℕ) (free : ℕ) (w serial : ℕ → ℕ) (issued : ℕ) (seen : ℕ → ℕ) → Tree ls head free w serial issued → ((k : ℕ) → 0 < seen k → (n : ℕ) × (n < length ls) × (0 < (link_at ls n).count) × (serial n ≡ k)) → ((n : ℕ) → n < length ls → 0 < (link_at ls n).count → 0 < seen (serial n)) → different seen issued + free ≡ length ls
