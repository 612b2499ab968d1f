-- Worked runs on the reference filter. Assumes nothing.
use Rattle.std.specs.Prelude.{◌≡◌, ℕ, List, [], ◌∷◌, map, replicate}
use Rattle.sources.specs.Rows.{recorded_supply}
use Rattle.sources.specs.Generators.{generator_supply}
use Rattle.models.specs.Meanings.{Meaning}
use Rattle.models.specs.Kinds.{Coding}
use Rattle.models.specs.declared.lift_state.LiftState.{LiftState}
use Rattle.models.specs.declared.pose.Pose.{Pose}
use Rattle.models.specs.Poses.{pose_coding}
use Rattle.models.specs.Grids.{grid_meaning}
use Rattle.models.specs.LiftStates.{lift_coding}
use Rattle.models.specs.Lifts.{lift_meaning}
use Rattle.filter.specs.Filters.{PathOf, Filter, fresh}
use Rattle.filter.specs.Uses.{all_paths, serials}
use Rattle.filter.specs.Calls.{Call, start, advance, weigh, resample, hold, give_back, finish}
use Rattle.filter.specs.Steps.{step, path}
use Rattle.filter.specs.Replies.{Reply, done, nothing, weighing, held, reply}

module _ {S : Type 0} (m : Meaning S) (f : Filter S) where
  -- the filter that obeyed these calls, the newest first, where each hold took place 3
  abbrev pub obeyed : List Call → Filter S
  obeyed [] = f
  obeyed (c ∷ cs) = step m (obeyed cs) c 3

  -- what it then replies to one call more
  abbrev pub replies : List Call → Call → Reply
  replies cs c = reply m (obeyed cs) c 3

-- a filter with 2,048 nodes, the stamp 7 and five numbers to come
abbrev pub five_numbers : Filter LiftState
five_numbers = fresh 2048 7 (recorded_supply (2147483648 ∷ 0 ∷ 0 ∷ 0 ∷ 2147483648 ∷ []))

-- one with four nodes, and numbers with no end
abbrev pub four_nodes : Filter LiftState
four_nodes = fresh 4 7 (generator_supply 0)

-- two particles of an empty grid that look east, and then a single and an overrun forward
abbrev pub east : Filter Pose
east = fresh 8 7 (recorded_supply (1048576 ∷ 1048576 ∷ 0 ∷ 4294967295 ∷ []))

abbrev pub empty_grid : Meaning Pose
empty_grid = grid_meaning (replicate 32 0)

-- the codes on a path, the newest first
abbrev pub codes : {S : Type 0} → Coding S → PathOf S → List ℕ
codes k p = map (λ x. k.code x.state) p

-- up to the weighed phase
abbrev pub to_weighed : List Call
to_weighed = weigh 2 ∷ advance 1 ∷ start 2 ∷ []

-- and the resampling
abbrev pub to_resampled : List Call
to_resampled = resample ∷ to_weighed

-- and a hold and the finish
abbrev pub to_finished : List Call
to_finished = finish ∷ hold 1 ∷ to_resampled

-- what it replies, and what it holds, in runs of two and four particles
pub record WorkedRun : Type 0 where
  -- from the start to the finish
  pub starts : replies lift_meaning five_numbers [] (start 2) ≡ done 2 0 nothing
  pub advances : replies lift_meaning five_numbers (start 2 ∷ []) (advance 1) ≡ done 2 0 nothing
  pub weighs : replies lift_meaning five_numbers (advance 1 ∷ start 2 ∷ []) (weigh 2) ≡ done 0 0 (weighing 81)
  pub resamples : replies lift_meaning five_numbers to_weighed resample ≡ done 0 2 nothing
  pub first_path : codes lift_coding (path (obeyed lift_meaning five_numbers to_resampled) 0) ≡ 100 ∷ 0 ∷ []
  pub second_path : codes lift_coding (path (obeyed lift_meaning five_numbers to_resampled) 1) ≡ 100 ∷ 0 ∷ []
  pub finishes : replies lift_meaning five_numbers to_resampled finish ≡ done 0 2 nothing
  -- the calls of the weighed phase
  pub holds_weighed : replies lift_meaning five_numbers to_weighed (hold 1) ≡ done 0 0 (held 7 3)
  pub finishes_weighed : replies lift_meaning five_numbers to_weighed finish ≡ done 0 4 nothing
  -- a hold keeps its nodes over the finish, and giving it back frees them
  pub holds : replies lift_meaning five_numbers to_resampled (hold 1) ≡ done 0 0 (held 7 3)
  pub keeps_what_is_held : replies lift_meaning five_numbers (hold 1 ∷ to_resampled) finish ≡ done 0 0 nothing
  pub gives_back : replies lift_meaning five_numbers to_finished (give_back 7 3) ≡ done 0 2 nothing
  pub keeps_its_own_path : serials (all_paths (obeyed lift_meaning five_numbers (finish ∷ hold 1 ∷ to_weighed))) ≡ 3 ∷ 1 ∷ []
  pub holds_over_a_start : replies lift_meaning four_nodes (start 2 ∷ finish ∷ hold 1 ∷ start 2 ∷ []) (give_back 7 3) ≡ done 0 1 nothing
  -- births and moves take their numbers in particle order
  pub born_in_order : (obeyed lift_meaning five_numbers to_weighed).weights ≡ 1 ∷ 80 ∷ []
  pub moved_in_order : map (codes pose_coding) (obeyed empty_grid east (advance 1 ∷ start 2 ∷ [])).paths ≡ (1025 ∷ 1024 ∷ []) ∷ (1026 ∷ 1024 ∷ []) ∷ []
  -- nodes that were freed are free again, and serials go on
  pub starts_again : replies lift_meaning four_nodes (finish ∷ start 4 ∷ []) (start 4) ≡ done 4 0 nothing
  pub serials_go_on : serials (all_paths (obeyed lift_meaning four_nodes (start 2 ∷ finish ∷ start 4 ∷ []))) ≡ 4 ∷ 5 ∷ []
  -- the maker uses 65,536 nodes at most
  pub most_nodes : (fresh {S = LiftState} 70000 7 (generator_supply 0)).room ≡ 65536
