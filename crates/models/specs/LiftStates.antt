-- States of the lift: a mode and a counter. Assumes nothing.
use Rattle.std.specs.Prelude.{ℕ, ◌+◌, ◌*◌, ◌/◌, ◌%◌, Bool, cond, Some, None, ◌==◌, nat_lt}
use Rattle.models.specs.Kinds.{Kind, Coding}
use Rattle.models.specs.declared.lift_state.Mode.{Mode}
use Rattle.models.specs.declared.lift_state.Mode.TheVariants.{Down, Rising, Up, Lowering}
use Rattle.models.specs.declared.lift_state.LiftState.{LiftState}

-- the number that a code has for a mode
abbrev pub mode_number : Mode → ℕ
mode_number Down = 0
mode_number Rising = 1
mode_number Up = 2
mode_number Lowering = 3

-- the mode that has the number
abbrev pub mode_of : ℕ → Mode
mode_of n = cond (n == 0) Down (cond (n == 1) Rising (cond (n == 2) Up Lowering))

-- the mode m with the counter at n
abbrev pub lift_state : Mode → ℕ → LiftState
lift_state m n = record { mode = m; counter = n }

-- the counter is 0 to 99
abbrev pub counts : LiftState → Bool
counts s = nat_lt s.counter 100

-- which values are states
abbrev pub lift_kind : Kind LiftState
lift_kind = record { is = counts }

-- the codes of the lift's states
abbrev pub lift_coding : Coding LiftState
lift_coding = record {
  is = counts;
  code = λ s. 100 * mode_number s.mode + s.counter;
  back = λ n. cond (nat_lt n 400) (Some (lift_state (mode_of (n / 100)) (n % 100))) None;
}
