use Rattle.std.proofs.Common.{rules}
use Rattle.resampling.proofs.Owners.{is_owner}
use Rattle.resampling.proofs.parents.Pass.owner_of.Goals as goal

pub returns-clause-owner : goal.returns-clause-owner
returns-clause-owner c = search (rules, is_owner)
