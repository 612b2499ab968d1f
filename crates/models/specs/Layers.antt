-- What a layer makes of the meaning below it. Assumes nothing.
use Rattle.std.specs.Prelude.{ℕ, ◌*◌, ◌/◌, ◌%◌, ◌^◌, max, cond, nat_lt}
use Rattle.models.specs.Meanings.{Meaning}

-- p of 256 numbers leave the state, and the others move it below by the bits that are left
abbrev pub slip_move : {S : Type 0} → ℕ → Meaning S → S → ℕ → ℕ → S
slip_move p m s c r = cond (nat_lt (r / 2 ^ 24) p) s (m.move s c (256 * r % 2 ^ 32))

-- a model whose moves slip
abbrev pub slipping : {S : Type 0} → ℕ → Meaning S → Meaning S
slipping p m = record {
  commands = m.commands;
  readings = m.readings;
  birth = m.birth;
  move = slip_move p m;
  score = m.score;
}

-- a model whose scores are at least f
abbrev pub floored : {S : Type 0} → ℕ → Meaning S → Meaning S
floored f m = record {
  commands = m.commands;
  readings = m.readings;
  birth = m.birth;
  move = m.move;
  score = λ s q. max f (m.score s q);
}
