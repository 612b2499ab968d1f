-- What stands of a cloud after any list of calls. Assumes nothing.
use Rattle.std.specs.Prelude.{◌≡◌, ℕ, ◌+◌, ◌<◌, true, List, Some, None}
use Rattle.sources.specs.Supplies.{Supply, after}
use Rattle.models.specs.Meanings.{Meaning}
use Rattle.filter.specs.Filters.{Filter}
use Rattle.filter.specs.Uses.{live}
use Rattle.filter.specs.Calls.{Call, start, advance, weigh, resample, hold, give_back, finish}
use Rattle.filter.specs.Runs.{Turn, all_issued, all_freed, all_drawn, reached}
use Rattle.filter.specs.Makings.{Making, makings, AllApart}
use Rattle.filter.specs.Descents.{OneOf}
use Rattle.filter.specs.Genealogies.{AllFair}
use Rattle.cloud.specs.declared.node.Node.{Node}
use Rattle.cloud.specs.Representations.{View}
use Rattle.cloud.specs.Seen.{Seen, seen_at, nodes_in_use, Shows}

-- how a call came to the node x with the drawn number r: a start by the birth of r, with no node before it, and an advance by the move
-- of the state at the node before it, under its command and r
abbrev pub Came : {S : Type 0} → Meaning S → List (Node S) → ℕ → Call → Seen S → Type 0
Came m xs r (start n) x = (x.parent ≡ None) × (x.state ≡ m.birth r)
Came {S} m xs r (advance c) x = (b : ℕ) × (y : Seen S) × (x.parent ≡ Some b) × (seen_at xs b ≡ Some y) × (x.state ≡ m.move y.state c r)
Came m xs r (weigh q) x = ⊥
Came m xs r resample x = ⊥
Came m xs r (hold k) x = ⊥
Came m xs r (give_back stamp place) x = ⊥
Came m xs r finish x = ⊥

-- node n, in which x is seen, was made in g: it is one of those issued there, its serial is in use, and its state came from its own draw
pub record MadeIn {S : Type 0} (m : Meaning S) (q₀ : Supply) (xs : List (Node S)) (node : ℕ → ℕ) (f : Filter S) (n : ℕ) (x : Seen S) (g : Making) : Type 0 where
  pub index : ℕ
  pub made : index < g.count
  pub serial_in_use : live (g.first_serial + index) f ≡ true
  pub node_is : node (g.first_serial + index) ≡ n
  pub came : Came m xs (q₀.to_come (g.first_draw + index)) g.call x

-- The ancestry theorem, of the cloud and the source that the run ts has led to, from the filter f₀ of a maker
pub record Ancestry {S : Type 0} (m : Meaning S) (f₀ : Filter S) (ts : List Turn) (node : ℕ → ℕ) (v : View S) (q : Supply) : Type 0 where
  -- the nodes in use are exactly those on the path of a living particle or of an open hold, and these paths are the reference filter's
  pub nodes_in_use_are_those_on_paths : Shows node v q (reached m f₀ ts)
  -- they number all that were issued less all that were freed, by the replies
  pub nodes_in_use_are_issued_less_freed : nodes_in_use v.nodes + all_freed ts ≡ all_issued ts
  -- each was made by a granted start or advance, from the node before it and a number drawn there
  pub every_node_in_use_was_made : (n : ℕ) (x : Seen S) → seen_at v.nodes n ≡ Some x → OneOf (MadeIn m f₀.source v.nodes node (reached m f₀ ts) n x) (makings ts)
  pub no_draw_serves_two_nodes : AllApart (makings ts)
  -- what the source has left is what it had at first, less all draws
  pub numbers_left_follow_those_drawn : q ≡ after (all_drawn ts) f₀.source
  -- in each granted resampling
  pub every_run_of_neighbours_got_its_share : AllFair m f₀ ts
