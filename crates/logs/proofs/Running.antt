-- One line more of a report. Assumes nothing.
use Rattle.std.proofs.Common.{◌≡◌, ℕ, ◌+◌, ◌≤◌, true, false, cond, eqb, List, [], ◌∷◌, ◌++◌, length, Result, ap, append_assoc, arith}
use Rattle.refusals.specs.declared.Refusal.{Refusal}
use Rattle.std.specs.List.{onto_first}
use Rattle.fields.specs.Cuts.{lines}
use Rattle.logs.specs.declared.line.Program.{Program}
use Rattle.logs.specs.declared.line.Line.{Line}
use Rattle.logs.specs.Reports.{entry_text}
use Rattle.logs.specs.Runs.{Told, served, report, state_after}

length-onto_first-le : (b : ℕ) (ps : List (List ℕ)) → length (onto_first b ps) ≤ length ps + 1
length-onto_first-le b [] = omega arith
length-onto_first-le b (p ∷ ps) = omega arith

-- a text has no more lines than bytes
pub lines-le : (bs : List ℕ) → length (lines bs) ≤ length bs
lines-le [] = omega arith
lines-le (b ∷ bs) =
    elim (eqb b 10) as (λ t. length (cond t ([] ∷ lines bs) (onto_first b (lines bs))) ≤ length (b ∷ bs)) [
      | true ↦ omega (arith, lines-le bs)
      | false ↦ omega (arith, length-onto_first-le b (lines bs), lines-le bs)
    ]

-- line k is told of, as number n
pub turn : {S : Type 0} (obeys : S → Line → S × Result Told Refusal) (p : Program) (s t : S) (k n next : ℕ) (out more whole line : List ℕ) (ls rest : List (List ℕ)) → out ++ report obeys p s k ls ≡ whole → ls ≡ line ∷ rest → n ≡ k → next ≡ n + 1 → more ≡ out ++ entry_text n (served obeys p s line).1 → t ≡ (served obeys p s line).0 → more ++ report obeys p t next rest ≡ whole
turn obeys p s t k n next out more whole line ls rest inv cut is up added after =
    let cut_here = ap (report obeys p s k) cut in
    grind (arith, append_assoc, cut_here)

pub states : {S : Type 0} (obeys : S → Line → S × Result Told Refusal) (p : Program) (s t : S) (line : List ℕ) (ls rest : List (List ℕ)) → ls ≡ line ∷ rest → t ≡ (served obeys p s line).0 → state_after obeys p t rest ≡ state_after obeys p s ls
states obeys p s t line ls rest cut after = let cut_here = ap (state_after obeys p s) cut in cc
