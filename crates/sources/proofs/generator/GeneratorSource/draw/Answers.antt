use Rattle.std.proofs.Common.{rules}
use Rattle.sources.specs.Steps.{generator_after}
use Rattle.sources.proofs.generator.GeneratorSource.draw.Goals as goal

pub returns-clause-rest : goal.returns-clause-rest
returns-clause-rest c = let after = generator_after 1 c.args.self.now.value in search rules
