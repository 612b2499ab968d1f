-- Systematic resampling in whole numbers: the marks, and which particle has which. Assumes nothing.
use Rattle.std.specs.Prelude.{ℕ, ◌+◌, ◌*◌, ◌/◌, ◌^◌, ◌<◌, ◌≤◌, Bool, List, map, length, take, sum, nat_le}
use Rattle.std.specs.List.{range_with_len, prefix_len}

-- the sum W of all weights
abbrev pub total : List ℕ → ℕ
total ws = sum ws

-- the sum C(i) of the weights before particle i
abbrev pub before : List ℕ → ℕ → ℕ
before ws i = sum (take i ws)

-- the offset that the drawn number r gives under the total w
abbrev pub offset : ℕ → ℕ → ℕ
offset r w = r * w / 2 ^ 32

-- mark k stands at u + k × W
abbrev pub mark : List ℕ → ℕ → ℕ → ℕ
mark ws u k = u + k * total ws

-- particle i has the mark at m: it has those from N × C(i) up to but without N × C(i + 1)
pub record Has (ws : List ℕ) (i m : ℕ) : Type 0 where
  pub within : i < length ws
  pub from : length ws * before ws i ≤ m
  pub upto : m < length ws * before ws (i + 1)

-- particle i has only marks before m
abbrev pub ends_before : List ℕ → ℕ → ℕ → Bool
ends_before ws m i = nat_le (length ws * before ws (i + 1)) m

-- the first particle that has not only marks before m
unfoldable pub owner : List ℕ → ℕ → ℕ
owner ws m = prefix_len (ends_before ws m) (range_with_len 0 (length ws))

-- new particle k continues the particle that has mark k, for the offset u
abbrev pub parent : List ℕ → ℕ → ℕ → ℕ
parent ws u k = owner ws (mark ws u k)

-- the parents of all new particles
abbrev pub parents : List ℕ → ℕ → List ℕ
parents ws u = map (parent ws u) (range_with_len 0 (length ws))
