use Rattle.std.proofs.Common.{rules}
use Rattle.std.proofs.lemmas.List.{take_rest}
use Rattle.fields.proofs.Cutting.{cut_at, cut_nowhere}
use Rattle.fields.proofs.cut.cut.Goals as goal

pub returns-in-Some : goal.returns-in-Some
returns-in-Some c =
    let parts = cut_at c.args.separator c.args.bytes.now c.in-Some.i (search rules) (search rules) (search rules) in
    search (rules, parts, take_rest)

pub returns-in-None : goal.returns-in-None
returns-in-None c =
    let parts = cut_nowhere c.args.separator c.args.bytes.now (search rules) in
    search (rules, parts)
