use Rattle.std.proofs.Common.{refl}
use Rattle.resampling.specs.Marks.{owner}
use Rattle.filter.specs.Uses.{in_use}
use Rattle.filter.proofs.theorem.worked_refusals_hold.Goals as goal

pub returns : goal.returns
unfolding owner in_use
returns c = record {
  started_already = refl;
  no_particles = refl;
  too_many_particles = refl;
  most_particles = refl;
  too_few_nodes = refl;
  too_few_numbers = refl;
  advance_of_nobody = refl;
  advance_of_weighed = refl;
  unknown_command = refl;
  nodes_in_use_are_not_free = refl;
  too_few_to_advance = refl;
  weigh_nobody = refl;
  weigh_again = refl;
  unknown_reading = refl;
  reading_is_no_command = refl;
  command_is_no_reading = refl;
  resample_level = refl;
  resample_again = refl;
  dry_before_zero = refl;
  all_zero = refl;
  hold_nobody = refl;
  no_such_particle = refl;
  no_place_left = refl;
  given_back_twice = refl;
  another_stamp = refl;
  another_place = refl;
  no_such_place = refl;
  finish_nobody = refl;
}
