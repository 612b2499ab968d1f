-- What stands of the reference filter after a run. Assumes nothing.
use Rattle.std.specs.Prelude.{◌≡◌, ◌+◌, Bool, true, false, List, [], ◌∷◌}
use Rattle.std.specs.List.{AllByRecursion}
use Rattle.resampling.specs.Children.{Fair}
use Rattle.sources.specs.Supplies.{after}
use Rattle.models.specs.Meanings.{Meaning}
use Rattle.filter.specs.Filters.{Filter}
use Rattle.filter.specs.Uses.{all_paths, in_use}
use Rattle.filter.specs.Calls.{resample}
use Rattle.filter.specs.Steps.{parents_now}
use Rattle.filter.specs.Replies.{Reply, refused, done}
use Rattle.filter.specs.Runs.{Turn, all_issued, all_freed, all_drawn, reached}
use Rattle.filter.specs.Makings.{makings, AllApart}
use Rattle.filter.specs.Descents.{Descends}

-- the call was granted
abbrev pub is_done : Reply → Bool
is_done (refused e) = false
is_done (done i d a) = true

-- if the turn is a granted resampling, every run of neighbours got the floor or the ceiling of its joint share
abbrev pub FairTurn : {S : Type 0} → Filter S → Turn → Type 0
FairTurn f t = t.call ≡ resample → is_done t.told ≡ true → Fair f.weights (parents_now f)

-- every turn of the run is so
abbrev pub AllFair : {S : Type 0} → Meaning S → Filter S → List Turn → Type 0
AllFair m f₀ [] = Unit {0}
AllFair m f₀ (t ∷ ts) = AllFair m f₀ ts × FairTurn (reached m f₀ ts) t

-- the states on paths come from births and moves, each by a draw of its own; nodes and numbers add up; resamplings were fair
pub record Genealogy {S : Type 0} (m : Meaning S) (f₀ : Filter S) (ts : List Turn) : Type 0 where
  pub every_state_descends : AllByRecursion (Descends m f₀.source.to_come (makings ts)) (all_paths (reached m f₀ ts))
  pub no_draw_serves_two_nodes : AllApart (makings ts)
  pub nodes_in_use_are_issued_less_freed : in_use (reached m f₀ ts) + all_freed ts ≡ all_issued ts
  pub serials_count_nodes_issued : (reached m f₀ ts).issued ≡ all_issued ts
  pub numbers_left_follow_those_drawn : (reached m f₀ ts).source ≡ after (all_drawn ts) f₀.source
  pub every_run_of_neighbours_gets_its_share : AllFair m f₀ ts
