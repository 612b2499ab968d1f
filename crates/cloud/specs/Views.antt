-- The parts of a cloud, and what its calls tell as replies of the reference filter. Assumes nothing.
use Rattle.std.specs.Prelude.{Ok, Err, Result}
use Rattle.refusals.specs.declared.Refusal.{Refusal}
use Rattle.filter.specs.Replies.{Reply, refused, done, nothing, weighing, held}
use Rattle.cloud.specs.declared.cloud.Cloud.{Cloud}
use Rattle.cloud.specs.declared.reply.Change.{Change}
use Rattle.cloud.specs.declared.reply.Weighing.{Weighing}
use Rattle.cloud.specs.declared.reply.Hold.{Hold}
use Rattle.cloud.specs.declared.reply.Held.{Held}
use Rattle.cloud.specs.Representations.{View}

abbrev pub view : {S : Type 0} → Cloud S → View S
view c = record {
  nodes = c.forest.nodes.now;
  head = c.forest.head;
  free = c.forest.free;
  tips = c.tips.items;
  weights = c.weights.items;
  holds = c.holds;
  phase = c.phase;
  round = c.round;
  stamp = c.stamp;
}

-- start, advance, resample and finish
abbrev pub told : Result Change Refusal → Reply
told (Ok r) = done r.issued r.freed nothing
told (Err e) = refused e

-- weigh
abbrev pub told_weighing : Result Weighing Refusal → Reply
told_weighing (Ok r) = done r.change.issued r.change.freed (weighing r.total)
told_weighing (Err e) = refused e

-- hold
abbrev pub told_held : Result Held Refusal → Reply
told_held (Ok r) = done r.change.issued r.change.freed (held r.hold.stamp r.hold.place)
told_held (Err e) = refused e

-- give back
abbrev pub told_back : Result Change (Refusal × Hold) → Reply
told_back (Ok r) = done r.issued r.freed nothing
told_back (Err e) = refused e.0
