use Rattle.std.proofs.Common.{◌≡◌, ◌*◌, ◌≤◌, length, arith}
use Rattle.std.proofs.lemmas.List.{take_more_set}
use Rattle.std.proofs.lemmas.List.FromFn.{map-range_with_len_more}
use Rattle.resampling.specs.Marks.{before, mark, parent, Has}
use Rattle.resampling.proofs.Owners.{owner_has, mark_low, mark_more}
use Rattle.resampling.proofs.parents.write_by_marks.Goals as goal

pub loop-k-preserved : goal.loop-k-preserved
loop-k-preserved c =
    let ws = c.args.weights.now in
    let u = c.args.first in
    let k = c.loop-k.k in
    let has : Has ws (parent ws u k) (mark ws u k) = owner_has ws (mark ws u k) (mark_low ws u k (omega arith) (omega arith)) in
    let own : c.owner_of.new.self.particle ≡ parent ws u k = cc in
    let from : length ws * before ws c.owner_of.new.self.particle ≤ mark ws u k = rw own has.from in
    (cc, omega (arith, from, mark_more ws u k), cc (take_more_set c.loop-k.row k c.owner_of.result (omega arith), map-range_with_len_more (parent ws u) 0 k k (omega arith)))
