-- Worked examples of refusals, and of their order. Assumes nothing.
use Rattle.std.specs.Prelude.{◌≡◌, [], ◌∷◌, replicate, Some}
use Rattle.refusals.specs.declared.Refusal.TheVariants.{WrongPhase, OutOfRange, Unknown, NotHeld, NoPlaceLeft, NoNodesLeft, SourceDry, AllZero}
use Rattle.sources.specs.Rows.{recorded_supply}
use Rattle.models.specs.Meanings.{Meaning}
use Rattle.models.specs.declared.pose.Pose.{Pose}
use Rattle.models.specs.declared.lift_state.LiftState.{LiftState}
use Rattle.models.specs.Grids.{grid_meaning}
use Rattle.models.specs.Lifts.{lift_meaning}
use Rattle.filter.specs.Filters.{Filter, fresh}
use Rattle.filter.specs.Calls.{start, advance, weigh, resample, hold, give_back, finish}
use Rattle.filter.specs.Steps.{with_places}
use Rattle.filter.specs.Replies.{refused, done, weighing}
use Rattle.filter.specs.Examples.{obeyed, replies, five_numbers, to_weighed, to_resampled, to_finished}

-- the lift with three nodes and five numbers
abbrev pub three_nodes : Filter LiftState
three_nodes = fresh 3 7 (recorded_supply (0 ∷ 0 ∷ 0 ∷ 0 ∷ 0 ∷ []))

-- two particles and no closed place
abbrev pub all_open : Filter LiftState
all_open = with_places (obeyed lift_meaning five_numbers (start 2 ∷ [])) (replicate 16 (Some []))

-- a grid of nothing but walls, where every score is 0
abbrev pub walls : Meaning Pose
walls = grid_meaning (replicate 32 4294967295)

-- the walls with one number to come
abbrev pub one_number : Filter Pose
one_number = fresh 8 7 (recorded_supply (0 ∷ []))

-- the walls with two numbers to come
abbrev pub two_numbers : Filter Pose
two_numbers = fresh 8 7 (recorded_supply (0 ∷ 0 ∷ []))

-- for each call, its refusals in their order
pub record WorkedRefusals : Type 0 where
  -- start: phase, range, nodes, numbers
  pub started_already : replies lift_meaning five_numbers (start 2 ∷ []) (start 0) ≡ refused WrongPhase
  pub no_particles : replies lift_meaning three_nodes [] (start 0) ≡ refused OutOfRange
  pub too_many_particles : replies lift_meaning three_nodes [] (start 257) ≡ refused OutOfRange
  pub most_particles : replies lift_meaning three_nodes [] (start 256) ≡ refused NoNodesLeft
  pub too_few_nodes : replies lift_meaning three_nodes [] (start 6) ≡ refused NoNodesLeft
  pub too_few_numbers : replies lift_meaning five_numbers [] (start 6) ≡ refused SourceDry
  -- advance: phase, command, nodes, numbers
  pub advance_of_nobody : replies lift_meaning five_numbers [] (advance 3) ≡ refused WrongPhase
  pub advance_of_weighed : replies lift_meaning five_numbers to_weighed (advance 3) ≡ refused WrongPhase
  pub unknown_command : replies lift_meaning three_nodes (start 2 ∷ []) (advance 3) ≡ refused Unknown
  pub nodes_in_use_are_not_free : replies lift_meaning three_nodes (start 3 ∷ []) (advance 1) ≡ refused NoNodesLeft
  pub too_few_to_advance : replies lift_meaning five_numbers (start 3 ∷ []) (advance 1) ≡ refused SourceDry
  -- weigh: phase, reading
  pub weigh_nobody : replies lift_meaning five_numbers [] (weigh 3) ≡ refused WrongPhase
  pub weigh_again : replies lift_meaning five_numbers to_weighed (weigh 3) ≡ refused WrongPhase
  pub unknown_reading : replies lift_meaning five_numbers (start 2 ∷ []) (weigh 3) ≡ refused Unknown
  pub reading_is_no_command : replies walls two_numbers (start 1 ∷ []) (weigh 31) ≡ done 0 0 (weighing 0)
  pub command_is_no_reading : replies walls two_numbers (start 1 ∷ []) (advance 31) ≡ refused Unknown
  -- resample: phase, numbers, zeros
  pub resample_level : replies walls one_number (start 1 ∷ []) resample ≡ refused WrongPhase
  pub resample_again : replies lift_meaning five_numbers to_resampled resample ≡ refused WrongPhase
  pub dry_before_zero : replies walls one_number (weigh 0 ∷ start 1 ∷ []) resample ≡ refused SourceDry
  pub all_zero : replies walls two_numbers (weigh 0 ∷ start 1 ∷ []) resample ≡ refused AllZero
  -- hold: phase, particle, place
  pub hold_nobody : replies lift_meaning five_numbers [] (hold 0) ≡ refused WrongPhase
  pub no_such_particle : replies lift_meaning all_open [] (hold 2) ≡ refused OutOfRange
  pub no_place_left : replies lift_meaning all_open [] (hold 1) ≡ refused NoPlaceLeft
  -- give back
  pub given_back_twice : replies lift_meaning five_numbers (give_back 7 3 ∷ to_finished) (give_back 7 3) ≡ refused NotHeld
  pub another_stamp : replies lift_meaning five_numbers to_finished (give_back 8 3) ≡ refused NotHeld
  pub another_place : replies lift_meaning five_numbers to_finished (give_back 7 2) ≡ refused NotHeld
  pub no_such_place : replies lift_meaning five_numbers to_finished (give_back 7 16) ≡ refused NotHeld
  -- finish
  pub finish_nobody : replies lift_meaning five_numbers [] finish ≡ refused WrongPhase
