use Rattle.std.proofs.Common.{ℕ, ◌+◌, sum_by, sym, subst}
use Rattle.cloud.specs.Links.{links}
use Rattle.cloud.specs.Trees.{is_node}
use Rattle.cloud.specs.Forests.{IsTree, HasTreeAll}
use Rattle.cloud.proofs.Gathering.{gather_held, swapped}
use Rattle.cloud.proofs.forest.Forest.resettle.Goals as goal

pub release_all-freed-requires : goal.release_all-freed-requires
release_all-freed-requires g c =
    subst (HasTreeAll c.retain_parents-children.new.self) (sym c.deref.ensures.0)
    (gather_held (links c.args.self.now.nodes.now) (links c.retain_parents-children.new.self.nodes.now) c.args.self.now.head c.retain_parents-children.new.self.head c.args.self.now.free c.retain_parents-children.new.self.free c.args.tips.now.items c.retain_parents-children.result.items c.retain_parents-children.ensures.tree c.requires.tree)

pub returns-clause-tree : goal.returns-clause-tree
returns-clause-tree g c =
    let released = subst (λ xs. (w serial : ℕ → ℕ) (issued : ℕ) → IsTree c.retain_parents-children.new.self (λ k. w k + sum_by (is_node k) xs) serial issued → IsTree c.release_all-freed.new.self w serial issued) c.deref.ensures.0 c.release_all-freed.ensures.tree in
    swapped (links c.args.self.now.nodes.now) (links c.retain_parents-children.new.self.nodes.now) (links c.release_all-freed.new.self.nodes.now) c.args.self.now.head c.retain_parents-children.new.self.head c.release_all-freed.new.self.head c.args.self.now.free c.retain_parents-children.new.self.free c.release_all-freed.new.self.free c.args.tips.now.items c.retain_parents-children.result.items c.retain_parents-children.ensures.tree released
