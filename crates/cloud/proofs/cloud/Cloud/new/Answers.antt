use Rattle.std.proofs.Common.{◌≡◌, min, length, arith}
use Rattle.cloud.proofs.Making.{made_some, made_begins, rest_of_lent}
use Rattle.cloud.proofs.cloud.Cloud.new.Goals as goal

pub invariant_of-result : goal.invariant_of-result
invariant_of-result g c =
    let size : length c.make-forest.result.nodes.now ≡ min (length c.args.nodes.now) 65536 = omega (arith, c.make-forest.ensures.size, c.split_at_mut-front.ensures.front_len, c.min-used.ensures) in
    record { represented = made_some c.make-forest.result.nodes.now c.make-forest.result.head c.make-forest.result.free c.new.result.items c.new-2.result.items c.new.ensures c.args.stamp (length c.args.nodes.now) size c.make-forest.ensures.tree }

pub returns : goal.returns
returns g c =
    let size : length c.make-forest.result.nodes.now ≡ min (length c.args.nodes.now) 65536 = omega (arith, c.make-forest.ensures.size, c.split_at_mut-front.ensures.front_len, c.min-used.ensures) in
    record {
      begins = made_begins c.make-forest.result.nodes.now c.make-forest.result.head c.make-forest.result.free c.new.result.items c.new-2.result.items c.new.ensures c.args.stamp (length c.args.nodes.now) size c.make-forest.ensures.tree;
      rest = rest_of_lent c.args.nodes.now c.split_at_mut-front.result.0.now c.split_at_mut-front.result.1.now c.min-used.result c.split_at_mut-front.ensures.value c.split_at_mut-front.ensures.front_len c.split_at_mut-front.ensures.back_len c.min-used.ensures;
    }
