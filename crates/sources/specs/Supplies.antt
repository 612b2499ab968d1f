-- What a source of numbers means: the numbers to come, and how many of them can be drawn. Assumes nothing.
use Rattle.std.specs.Prelude.{◌≡◌, ℕ, ◌+◌, ◌^◌, ◌<◌, Bool, true, cond, Ok, Err, Result}
use Rattle.refusals.specs.declared.Refusal.{Refusal}
use Rattle.refusals.specs.declared.Refusal.TheVariants.{SourceDry}

-- the k-th number to come, and whether n numbers can be drawn
pub record Supply : Type 0 where
  pub to_come : ℕ → ℕ
  pub can : ℕ → Bool

-- 0 numbers can always be drawn; where n + 1 can be drawn, n can; each number has 32 bits
pub record Lawful (s : Supply) : Type 0 where
  pub none : s.can 0 ≡ true
  pub fewer : (n : ℕ) → s.can (n + 1) ≡ true → s.can n ≡ true
  pub below : (k : ℕ) → s.to_come k < 2 ^ 32

-- the supply once n numbers were drawn
abbrev pub after : ℕ → Supply → Supply
after n s = record { to_come = λ k. s.to_come (k + n); can = λ m. s.can (m + n) }

-- what a draw answers
abbrev pub drawn : Supply → Result ℕ Refusal
drawn s = cond (s.can 1) (Ok (s.to_come 0)) (Err SourceDry)

-- the supply that a draw leaves, granted or refused
abbrev pub left : Supply → Supply
left s = cond (s.can 1) (after 1 s) s
