-- A line by its first field and what follows it. Assumes nothing.
use Rattle.std.proofs.Common.{◌≡◌, ℕ, List, ap}
use Rattle.std.proofs.lemmas.Bool.Decides.{nat_tests}
use Rattle.fields.specs.Cuts.{front, after, fields, fields_in}
use Rattle.fields.proofs.Cutting.{fields_cut}
use Rattle.logs.specs.declared.line.Program.{Program}
use Rattle.logs.specs.Lines.{arguments_of, only_letter, line_by_known, from_fields}

pub line_cut : (p : Program) (bs : List ℕ) → from_fields p (fields bs) ≡ line_by_known (only_letter p (front 44 bs)) (arguments_of (fields_in (after 44 bs)))
line_cut p bs = ap (from_fields p) (fields_cut bs)

pub ruleset reading = (nat_tests, line_cut)
