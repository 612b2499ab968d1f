use Rattle.std.proofs.Common.{refl}
use Rattle.resampling.specs.Marks.{owner}
use Rattle.filter.specs.Uses.{in_use}
use Rattle.filter.proofs.theorem.worked_run_holds.Goals as goal

pub returns : goal.returns
unfolding owner in_use
returns c = record {
  starts = refl;
  advances = refl;
  weighs = refl;
  resamples = refl;
  first_path = refl;
  second_path = refl;
  finishes = refl;
  holds_weighed = refl;
  finishes_weighed = refl;
  holds = refl;
  keeps_what_is_held = refl;
  gives_back = refl;
  keeps_its_own_path = refl;
  holds_over_a_start = refl;
  born_in_order = refl;
  moved_in_order = refl;
  starts_again = refl;
  serials_go_on = refl;
  most_nodes = refl;
}
