use Rattle.std.proofs.Common.{◌+◌, ◌≤◌, arith}
use native.Mathlib.Bridge.{le_prop}
use mathlib.Core.Logic.{∥∥₁_elim, ∥∥₁_map}
use Rattle.cloud.proofs.Trees.{free_le}
use Rattle.cloud.proofs.forest.Forest.release.Goals as goal

pub release-head-requires : goal.release-head-requires
release-head-requires g c = ∥∥₁_map c.requires (λ (w, serial, issued, t). (c.args.self.now.free, w, serial, issued, t))

pub overflow_add-self : goal.overflow_add-self
overflow_add-self g c =
    let b : c.args.self.now.free + c.release-head.result.1 ≤ 65536
    = ∥∥₁_elim c.requires le_prop (λ (w, serial, issued, t). free_le _ _ _ w serial issued (c.release-head.ensures.tree c.args.self.now.free w serial issued t)) in
    omega arith
