-- The report of a log, by what a machine means. Assumes nothing.
use Rattle.std.specs.Prelude.{ℕ, ◌+◌, cond, List, [], ◌∷◌, ◌++◌, length, Ok, Err, Option, Result, nat_lt}
use Rattle.std.specs.Result.{result_map_both}
use Rattle.refusals.specs.declared.Refusal.{Refusal}
use Rattle.logs.specs.declared.fault.LineFault.{LineFault}
use Rattle.logs.specs.declared.fault.RunFault.{RunFault}
use Rattle.logs.specs.declared.fault.RunFault.TheVariants as fault
use Rattle.logs.specs.declared.line.Program.{Program}
use Rattle.logs.specs.declared.line.Line.{Line}
use Rattle.logs.specs.declared.reply.Reply.{Reply}
use Rattle.fields.specs.Cuts.{lines}
use Rattle.logs.specs.Lines.{line_of}
use Rattle.logs.specs.Reports.{entry_text}

abbrev pub Told : Type 0
Told = Option (Reply (List ℕ))

-- a refusal of the machine, carried whole
abbrev pub in_run : {X : Type 0} → Result X Refusal → Result X RunFault
in_run r = result_map_both (λ x. x) (λ e. fault.Call e) r

module _ {S : Type 0} (obeys : S → Line → S × Result Told Refusal) where
  abbrev pub obeyed : S → Result Line LineFault → S × Result Told RunFault
  obeyed s (Ok l) = ((obeys s l).0, in_run (obeys s l).1)
  obeyed s (Err f) = (s, Err (fault.Line f))

  -- one line, read and obeyed
  abbrev pub served : Program → S → List ℕ → S × Result Told RunFault
  served p s bs = obeyed s (line_of p bs)

  -- lines from number k on
  abbrev pub report : Program → S → ℕ → List (List ℕ) → List ℕ
  report p s k [] = []
  report p s k (l ∷ ls) = entry_text k (served p s l).1 ++ report p (served p s l).0 (k + 1) ls

  -- a whole log
  abbrev pub whole_report : Program → S → List ℕ → List ℕ
  whole_report p s bs = cond (nat_lt 32768 (length bs)) (entry_text 0 (Err fault.InputTooLong)) (report p s 1 (lines bs))

  -- the state after all lines
  abbrev pub state_after : Program → S → List (List ℕ) → S
  state_after p s [] = s
  state_after p s (l ∷ ls) = state_after p (served p s l).0 ls

  abbrev pub whole_state : Program → S → List ℕ → S
  whole_state p s bs = cond (nat_lt 32768 (length bs)) s (state_after p s (lines bs))
