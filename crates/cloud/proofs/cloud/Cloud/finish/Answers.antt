use Rattle.std.proofs.Common.{ℕ, ◌+◌, sum_by, sym, refl, subst, rules}
use Rattle.sources.specs.Supplies.{Supply}
use Rattle.models.specs.Meanings.{Meaning}
use Rattle.cloud.specs.Trees.{is_node}
use Rattle.cloud.specs.Forests.{IsTree, HasTreeAll}
use Rattle.cloud.specs.Views.{view}
use Rattle.cloud.proofs.Finishing.{finish_wrong_phase, finish_named, finish_granted}
use Rattle.cloud.proofs.Going.{promised}
use Rattle.cloud.proofs.Stepping.{some_free, living_path, same_cloud}
use Rattle.cloud.proofs.cloud.Cloud.finish.Goals as goal

pub returns-then-eq : goal.returns-then-eq
returns-then-eq g c = record {
  same = same_cloud _ _;
  rest = refl;
  steps = λ k m q. (promised k (finish_wrong_phase m q (view c.args.self.now) (search rules))).0;
  runs = λ k m q. (promised k (finish_wrong_phase m q (view c.args.self.now) (search rules))).1;
}

pub release_all-freed-requires : goal.release_all-freed-requires
release_all-freed-requires g c = subst (HasTreeAll c.args.self.now.forest) (sym c.deref.ensures.0) (finish_named (view c.args.self.now) c.args.self.now.represented)

pub invariant_of-self-2 : goal.invariant_of-self-2
invariant_of-self-2 g c =
    let left = c.release_all-freed.new.self in
    let law = subst (λ xs. (w serial : ℕ → ℕ) (issued : ℕ) → IsTree c.args.self.now.forest (λ k. w k + sum_by (is_node k) xs) serial issued → IsTree c.release_all-freed.new.self w serial issued) c.deref.ensures.0 c.release_all-freed.ensures.tree in
    let go = λ (m : Meaning g.row.S.Denot) (q : Supply). finish_granted m q (view c.args.self.now) left.nodes.now left.head left.free c.clear.new.self.items c.release_all-freed.result c.clear.ensures c.release_all-freed.ensures.freed c.release_all-freed.ensures.kept law (search rules) in
    record { represented = some_free (living_path (view c.args.self.now) (search rules)) go c.args.self.now.represented }

pub returns : goal.returns
returns g c =
    let left = c.release_all-freed.new.self in
    let law = subst (λ xs. (w serial : ℕ → ℕ) (issued : ℕ) → IsTree c.args.self.now.forest (λ k. w k + sum_by (is_node k) xs) serial issued → IsTree c.release_all-freed.new.self w serial issued) c.deref.ensures.0 c.release_all-freed.ensures.tree in
    let go = λ (m : Meaning g.row.S.Denot) (q : Supply). finish_granted m q (view c.args.self.now) left.nodes.now left.head left.free c.clear.new.self.items c.release_all-freed.result c.clear.ensures c.release_all-freed.ensures.freed c.release_all-freed.ensures.kept law (search rules) in
    record { same = tt; rest = refl; steps = λ k m q. (promised k (go m q)).0; runs = λ k m q. (promised k (go m q)).1 }
