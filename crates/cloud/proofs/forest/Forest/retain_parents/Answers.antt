use Rattle.std.proofs.Common.{◌≡◌, ℕ, ◌<◌, [], ◌∷◌, ◌++◌, length, get_or, ap, ◌∙◌, arith}
use Rattle.cloud.specs.Links.{links}
use Rattle.cloud.proofs.Gathering.{gather_inside, gather_used, gather_room, gather_more, children_more}
use Rattle.cloud.proofs.Links.{keeps_trans, length-links}
use Rattle.cloud.proofs.forest.Forest.retain_parents.Goals as goal

pub loop-parent-preserved : goal.loop-parent-preserved
loop-parent-preserved g c =
    let l : c.loop-parent.parent-index < length c.args.parents.now = omega arith in
    record {
      children = c.push.ensures.items ∙ ap (λ us. c.loop-parent.children.items ++ get_or us (get_or c.args.parents.now c.loop-parent.parent-index 0) 0 ∷ []) c.deref.ensures.0 ∙ children_more c.loop-parent.children.items c.args.old.now.items c.args.parents.now c.loop-parent.parent-index l c.loop-parent.invariant.children;
      tree = gather_more (links c.args.self.now.nodes.now) (links c.loop-parent.self.nodes.now) (links c.retain.new.self.nodes.now) c.args.self.now.head c.loop-parent.self.head c.retain.new.self.head c.args.self.now.free c.loop-parent.self.free c.retain.new.self.free c.loop-parent.children.items _ (get_or c.deref.result.now (get_or c.args.parents.now c.loop-parent.parent-index 0) 0) c.push.ensures.items c.loop-parent.invariant.tree c.retain.ensures.tree;
      number = omega (arith, c.push.ensures.len, c.loop-parent.invariant.number);
      kept = keeps_trans c.args.self.now.nodes.now c.loop-parent.self.nodes.now c.retain.new.self.nodes.now c.loop-parent.invariant.kept c.retain.ensures.kept;
      free = c.retain.ensures.free ∙ c.loop-parent.invariant.free;
    }

pub retain-requires : goal.retain-requires
retain-requires g c =
    let p : ℕ = get_or c.args.parents.now c.loop-parent.parent-index 0 in
    let node : ℕ = get_or c.deref.result.now p 0 in
    let is : node ≡ get_or c.args.old.now.items p 0 = ap (λ us. get_or us p 0) c.deref.ensures.0 in
    let below : get_or c.args.parents.now c.loop-parent.parent-index 0 < length c.args.old.now.items = c.requires.below c.loop-parent.parent-index (omega arith) in
    let ls = links c.args.self.now.nodes.now in
    let ms = links c.loop-parent.self.nodes.now in
    record {
      within = omega (arith, gather_inside ls ms c.args.self.now.head c.loop-parent.self.head c.args.self.now.free c.loop-parent.self.free c.args.old.now.items c.loop-parent.children.items c.loop-parent.invariant.tree c.requires.tree node p below is, length-links c.loop-parent.self.nodes.now);
      used = gather_used ls ms c.args.self.now.head c.loop-parent.self.head c.args.self.now.free c.loop-parent.self.free c.args.old.now.items c.loop-parent.children.items c.loop-parent.invariant.tree c.requires.tree node p below is;
      room = gather_room ls ms c.args.self.now.head c.loop-parent.self.head c.args.self.now.free c.loop-parent.self.free c.args.old.now.items c.loop-parent.children.items c.loop-parent.invariant.tree c.requires.tree node p below is (omega (arith, c.deref.ensures.1, ap length c.deref.ensures.0)) (omega (arith, c.loop-parent.invariant.number, c.requires.fits));
    }
