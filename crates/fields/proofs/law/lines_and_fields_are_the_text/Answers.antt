use Rattle.fields.proofs.Exact.{numbers_exact}
use Rattle.fields.proofs.Joining.{fields_join, fields_alone, lines_join, lines_alone}
use Rattle.fields.proofs.law.lines_and_fields_are_the_text.Goals as goal

pub returns : goal.returns
returns c = record { fields_join = fields_join; fields_alone = fields_alone; lines_join = lines_join; lines_alone = lines_alone; numbers_exact = numbers_exact }
