-- A run goes on with each call whose step was taken.
use Rattle.sources.specs.Supplies.{Supply}
use Rattle.models.specs.Kinds.{Kind}
use Rattle.models.specs.Meanings.{Meaning}
use Rattle.filter.specs.Filters.{Filter, fresh}
use Rattle.filter.specs.Calls.{Call}
use Rattle.filter.specs.Replies.{Reply}
use Rattle.filter.specs.Runs.{reached}
use Rattle.filter.proofs.Genealogies.{run_states}
use Rattle.cloud.specs.Representations.{View}
use Rattle.cloud.specs.Promises.{LedTo, Follows, Steps, GoesOn, then_turn}
use Rattle.cloud.proofs.Stepping.{steps_of}
use Rattle.cloud.proofs.Ancestries.{run_ancestry}

pub goes_on : {S : Type 0} (k : Kind S) {m : Meaning S} {call : Call} {told : Reply} {v v' : View S} {q q' : Supply} → Steps k m call told v q v' q' → GoesOn k m call told v q v' q'
goes_on {S} k {m} {call} {told} {v} {v'} {q} {q'} steps law brought stamp q₀ lawful ts node led =
    let f₀ : Filter S = fresh brought stamp q₀ in
    let t = (steps law node (reached m f₀ ts) led.represents (run_states S k m law brought stamp q₀ lawful ts) led.source).0 in
    let next : LedTo m f₀ (then_turn call told ts) t.node' v' q' = record { told = (led.told, t.tells); represents = t.represents; source = t.source } in
    record {
      node' = t.node';
      led_to = next;
      stay = t.stay;
      ancestry = run_ancestry S m brought stamp q₀ lawful (then_turn call told ts) t.node' v' q' next;
    }

-- both promises of a call that every filter follows
pub promised : {S : Type 0} (k : Kind S) {m : Meaning S} {call : Call} {told : Reply} {v v' : View S} {q q' : Supply} → Follows m call told v q v' q' → Steps k m call told v q v' q' × GoesOn k m call told v q v' q'
promised k {m} {call} {told} {v} {v'} {q} {q'} go = let s = steps_of k m call told v v' q q' go in (s, goes_on k s)
