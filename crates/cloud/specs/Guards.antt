-- A model that is asked only about states and known commands and readings. Assumes nothing.
use Rattle.std.specs.Prelude.{ℕ, cond, ◌&&◌}
use Rattle.models.specs.Kinds.{Kind}
use Rattle.models.specs.Meanings.{Meaning}

-- the move of a state under a known command; any other value stays as it is
abbrev pub guarded_move : {S : Type 0} → Kind S → Meaning S → S → ℕ → ℕ → S
guarded_move k m s c r = cond (k.is s && m.commands c) (m.move s c r) s

-- the score of a state at a known reading; any other value has score 0
abbrev pub guarded_score : {S : Type 0} → Kind S → Meaning S → S → ℕ → ℕ
guarded_score k m s q = cond (k.is s && m.readings q) (m.score s q) 0

-- the model with its moves and scores guarded: on states it is the model itself
abbrev pub guarded : {S : Type 0} → Kind S → Meaning S → Meaning S
guarded k m = record {
  commands = m.commands;
  readings = m.readings;
  birth = m.birth;
  move = guarded_move k m;
  score = guarded_score k m;
}
