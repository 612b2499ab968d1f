-- The lift: a table that is raised and lowered. Assumes nothing.
use Rattle.std.specs.Prelude.{ℕ, ◌+◌, ◌/◌, ◌^◌, min, Bool, true, false, cond, not, ◌&&◌, Ok, Err, Result, ◌==◌, nat_le, nat_lt}
use Rattle.refusals.specs.declared.Refusal.{Refusal}
use Rattle.refusals.specs.declared.Refusal.TheVariants.{Unknown}
use Rattle.models.specs.Meanings.{Meaning}
use Rattle.models.specs.LiftStates.{lift_state, mode_of}
use Rattle.models.specs.declared.lift.Command.{Command}
use Rattle.models.specs.declared.lift.Command.TheVariants.{GoOn, Raise, Lower}
use Rattle.models.specs.declared.lift.Reading.{Reading}
use Rattle.models.specs.declared.lift.Reading.TheVariants.{Rests, Lowers, Rises}
use Rattle.models.specs.declared.lift_state.Mode.{Mode}
use Rattle.models.specs.declared.lift_state.Mode.TheVariants.{Down, Rising, Up, Lowering}
use Rattle.models.specs.declared.lift_state.LiftState.{LiftState}

-- a birth: the mode is read off the number's upper bits
abbrev pub lift_birth : ℕ → LiftState
lift_birth r = lift_state (mode_of (r / 2 ^ 30)) 0

-- down or on the way there
abbrev pub low : Mode → Bool
low Down = true
low Rising = false
low Up = false
low Lowering = true

-- a table on its way has counted to 2, and twelve numbers in sixteen let it arrive
abbrev pub arrives : ℕ → ℕ → Bool
arrives n r = nat_le 2 n && nat_lt (r / 2 ^ 28) 12

-- the mode goes on and the counter rises, up to 99
abbrev pub counted : Mode → ℕ → LiftState
counted m n = lift_state m (min (n + 1) 99)

-- no command turns the table
abbrev pub run_on : Mode → ℕ → ℕ → LiftState
run_on Down n r = counted Down n
run_on Rising n r = cond (arrives n r) (lift_state Up 0) (counted Rising n)
run_on Up n r = counted Up n
run_on Lowering n r = cond (arrives n r) (lift_state Down 0) (counted Lowering n)

-- the command that has the number, and a refusal of a number that no command has
abbrev pub command_reply : ℕ → Result Command Refusal
command_reply c =
    cond (c == 0) (Ok GoOn)
    (cond (c == 1) (Ok Raise)
    (cond (c == 2) (Ok Lower)
    (Err Unknown)))

-- command 1 raises a low table, 2 lowers a high one, and else it runs on
abbrev pub lift_move : LiftState → ℕ → ℕ → LiftState
lift_move s c r =
    cond (c == 1 && low s.mode) (lift_state Rising 0)
    (cond (c == 2 && not (low s.mode)) (lift_state Lowering 0)
    (run_on s.mode s.counter r))

-- the reading that has the number, and a refusal of a number that no reading has
abbrev pub reading_reply : ℕ → Result Reading Refusal
reading_reply q =
    cond (q == 0) (Ok Rests)
    (cond (q == 1) (Ok Lowers)
    (cond (q == 2) (Ok Rises)
    (Err Unknown)))

-- the scores of readings 0, 1 and 2
abbrev pub of_three : ℕ → ℕ → ℕ → ℕ → ℕ
of_three a b c q = cond (q == 0) a (cond (q == 1) b c)

-- the score of a reading in a mode
abbrev pub lift_score : Mode → ℕ → ℕ
lift_score Down = of_three 90 9 1
lift_score Rising = of_three 1 19 80
lift_score Up = of_three 80 19 1
lift_score Lowering = of_three 9 81 10

-- the meaning of the lift
abbrev pub lift_meaning : Meaning LiftState
lift_meaning = record {
  commands = λ c. nat_lt c 3;
  readings = λ q. nat_lt q 3;
  birth = lift_birth;
  move = lift_move;
  score = λ s q. lift_score s.mode q;
}
