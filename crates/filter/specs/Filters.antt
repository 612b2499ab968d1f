-- The reference filter's state: a particle filter that keeps every path as a list of its own. Assumes nothing.
use Rattle.std.specs.Prelude.{ℕ, min, List, [], replicate, None, Option}
use Rattle.sources.specs.Supplies.{Supply}
use Rattle.filter.specs.declared.phase.Phase.{Phase}
use Rattle.filter.specs.declared.phase.Phase.TheVariants.{Empty}

-- a state on a path, with its serial: the count of nodes issued before it
pub record Pair (S : Type 0) : Type 0 where
  pub state : S
  pub serial : ℕ

-- a path, its newest pair first
abbrev pub PathOf : Type 0 → Type 0
PathOf S = List (Pair S)

-- the filter between two calls
pub record Filter (S : Type 0) : Type 0 where
  pub phase : Phase
  -- how many advances there were since the start
  pub round : ℕ
  -- the path of each particle
  pub paths : List (PathOf S)
  -- the weight of each particle, in the weighed phase
  pub weights : List ℕ
  -- the numbers to come
  pub source : Supply
  -- the hold places: each is closed, or has a path
  pub places : List (Option (PathOf S))
  -- how many nodes were issued since the maker
  pub issued : ℕ
  -- how many nodes the maker uses
  pub room : ℕ
  -- what tells the maker's holds from another's
  pub stamp : ℕ

-- the filter as its maker leaves it, who brought so many nodes
abbrev pub fresh : {S : Type 0} → ℕ → ℕ → Supply → Filter S
fresh brought stamp source = record {
  phase = Empty;
  round = 0;
  paths = [];
  weights = [];
  source = source;
  places = replicate 16 None;
  issued = 0;
  room = min brought 65536;
  stamp = stamp;
}
