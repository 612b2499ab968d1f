use Rattle.std.proofs.Common.{refl, rules}
use Rattle.fields.proofs.Cutting.{next_of}
use Rattle.fields.proofs.cut.next_line.Goals as goal

pub returns : goal.returns
returns c =
    let next = next_of c.args.text.now c.cut.result.1 _ _ (search rules) c.cut.ensures.rest refl c.unwrap_or.ensures in
    search (rules, next)
