use Rattle.std.proofs.Common.{◌≡◌}
use Rattle.cloud.specs.Links.{links, states}
use Rattle.cloud.proofs.Freeing.{AllFree}
use Rattle.cloud.proofs.tree.make_free.Given as goal

abbrev pub invariant-loop-i : goal.invariant-loop-i
invariant-loop-i g l = record { kept : states l.nodes ≡ states l.initial.nodes; free : AllFree (links l.nodes) l.head l.i }
