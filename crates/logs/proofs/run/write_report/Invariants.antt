use Rattle.std.proofs.Common.{◌≡◌, ℕ, ◌+◌, ◌≤◌, List, ◌++◌, length}
use Rattle.std.specs.Fmt.{IsPlainFormatter, HasWritten}
use Rattle.fields.specs.Cuts.{lines}
use Rattle.logs.specs.Runs.{report, state_after}
use Rattle.logs.proofs.run.write_report.Given as goal

-- what is written, and the report of what is left
abbrev pub invariant-loop-number : goal.invariant-loop-number
invariant-loop-number g l =
    let obeys = g.M.Machine.obeys (length l.initial.row) in
    let state = g.M.Machine.state l.machine in
    let first = g.M.Machine.state l.initial.machine in
    let number = l.number-iterator.a.start in
    let left = lines l.number-iterator.b.0.now in record {
      written : IsPlainFormatter l.initial.f → (out : List ℕ) × HasWritten g.W.Write.write_str_gives l.initial.f out l.f × (out ++ report obeys l.program state number left ≡ report obeys l.program first 1 (lines l.input));
      after : state_after obeys l.program state left ≡ state_after obeys l.program first (lines l.input);
      few : number + length left ≤ 32769;
    }
