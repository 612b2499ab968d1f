-- What every call shares: refused and granted steps, and that some filter is represented afterwards.
use Rattle.std.proofs.Common.{◌≡◌, ℕ, ◌+◌, ◌<◌, ◌≤◌, Bool, true, false, leb, List, [], ◌∷◌, length, get_or, Some, None, sum_by, Option, sym, refl, ap, ◌∙◌, subst, arith}
use mathlib.Core.Logic.{∥∥₁_map, ∥∥₁_elim, ∥∥₁_prop}
use native.Mathlib.Bridge.{le_prop}
use Rattle.std.proofs.ByRecursion.{All-get_or}
use Rattle.std.proofs.lemmas.Bool.{and_parts, leb-true}
use Rattle.refusals.specs.declared.Refusal.{Refusal}
use Rattle.sources.specs.Supplies.{Supply, Lawful}
use Rattle.models.specs.Kinds.{Kind}
use Rattle.models.specs.Meanings.{Meaning}
use Rattle.resampling.specs.Calls.{in_range}
use Rattle.filter.specs.declared.phase.Phase.TheVariants.{Empty, Weighed}
use Rattle.filter.specs.Filters.{PathOf, Filter}
use Rattle.filter.specs.Uses.{in_use}
use Rattle.filter.specs.Calls.{Call}
use Rattle.filter.specs.Refusals.{unless, refusal}
use Rattle.filter.specs.Steps.{granted, step}
use Rattle.filter.specs.Replies.{Reply, refused, done, told_place, Answer, WasClosed, issued_by, answer, freed, place_in}
use Rattle.filter.specs.Sound.{Sound}
use Rattle.filter.proofs.Refusals.{step_by, reply_by}
use Rattle.filter.proofs.States.{step_states}
use Rattle.cloud.specs.declared.cloud.Cloud.{Cloud}
use Rattle.cloud.specs.Links.{Link}
use Rattle.cloud.specs.Trees.{is_named}
use Rattle.cloud.specs.Tracks.{Track, IsNamed}
use Rattle.cloud.specs.Representations.{View, Represents, Alike, SomeFilter, SomeFilterOf}
use Rattle.cloud.proofs.Naming.{place_named}
use Rattle.cloud.specs.Promises.{Stay, Taken, Follows, Steps}

-- a test of a call passed, and failed
pub passed : {t : Bool} (e : Refusal) {r : Option Refusal} → t ≡ true → unless t e r ≡ r
passed e {r} h = ap (λ t. unless t e r) h

pub failed : {t : Bool} {e : Refusal} (r : Option Refusal) → t ≡ false → unless t e r ≡ Some e
failed {e = e} r h = ap (λ t. unless t e r) h

-- the filter with another source
abbrev pub fed : {S : Type 0} → Filter S → Supply → Filter S
fed f q = record {
  phase = f.phase;
  round = f.round;
  paths = f.paths;
  weights = f.weights;
  source = q;
  places = f.places;
  issued = f.issued;
  room = f.room;
  stamp = f.stamp;
}

sound_fed : {S : Type 0} (f : Filter S) (q : Supply) → Lawful q → Sound f → Sound (fed f q)
unfolding in_use
sound_fed f q law s = record {
  supply_lawful = law;
  serials_fall = s.serials_fall;
  serials_below_issued = s.serials_below_issued;
  one_serial_one_node = s.one_serial_one_node;
  paths_begun = s.paths_begun;
  paths_as_long_as_round = s.paths_as_long_as_round;
  sixteen_places = s.sixteen_places;
  in_use_within_room = s.in_use_within_room;
  nobody_while_empty = s.nobody_while_empty;
  particles_in_range = s.particles_in_range;
  each_weighed = s.each_weighed;
}

pub represents_fed : {S : Type 0} (node : ℕ → ℕ) (v : View S) (f : Filter S) (q : Supply) → Lawful q → Represents node v f → Represents node v (fed f q)
represents_fed node v f q law h = record {
  sound = sound_fed f q law h.sound;
  serial = h.serial;
  tree = h.tree;
  inverse = h.inverse;
  number = h.number;
  paths_are = h.paths_are;
  sixteen = h.sixteen;
  places_are = h.places_are;
  phase = h.phase;
  round = h.round;
  stamp = h.stamp;
  room = h.room;
  weights = h.weights;
}

module _ {S : Type 0} (m : Meaning S) (call : Call) (v : View S) (q : Supply) (node : ℕ → ℕ) (f : Filter S) where
  -- a refused call leaves what it found
  pub taken_refused : (e : Refusal) → Represents node v f → f.source ≡ q → refusal m f call ≡ Some e → Taken m call (refused e) v v q node f
  taken_refused e h src r =
      let same : step m f call 0 ≡ f = step_by m f call 0 (Some e) r in
      record {
        tells = record { reply_is = sym (reply_by m f call 0 (Some e) r); place_closed = tt };
        node' = node;
        represents = subst (Represents node v) (sym same) h;
        source = ap (λ (x : Filter S). x.source) same ∙ src;
        stay = record { kept = λ s l. refl; new = λ s l l2. absurd (omega (arith, ap (λ (x : Filter S). x.issued) same)) };
      }

  -- a granted call
  pub taken_granted : (i d : ℕ) (a : Answer) (v' : View S) (q' : Supply) (node' : ℕ → ℕ) → refusal m f call ≡ None → WasClosed f.places a
      → Represents node' v' (granted m f call (place_in a)) → (granted m f call (place_in a)).source ≡ q'
      → i ≡ issued_by f call → d ≡ freed f (granted m f call (place_in a)) → a ≡ answer m f call (place_in a)
      → Stay v node node' f.issued (granted m f call (place_in a)).issued
      → Taken m call (done i d a) v v' q' node f
  taken_granted i d a v' q' node' r closed h src ei ed ea stays =
      let same : step m f call (place_in a) ≡ granted m f call (place_in a) = step_by m f call (place_in a) None r in
      let says : done i d a ≡ done (issued_by f call) (freed f (granted m f call (place_in a))) (answer m f call (place_in a)) = cc in
      record {
        tells = record { reply_is = says ∙ sym (reply_by m f call (place_in a) None r); place_closed = closed };
        node' = node';
        represents = subst (Represents node' v') (sym same) h;
        source = ap (λ (x : Filter S). x.source) same ∙ src;
        stay = subst (λ (x : Filter S). Stay v node node' f.issued x.issued) (sym same) stays;
      }

-- nodes that all stay
pub stay_all : {S : Type 0} (v : View S) (node : ℕ → ℕ) (b : ℕ) → Stay v node node b b
stay_all v node b = record { kept = λ s l. refl; new = λ s l l2. absurd (omega arith) }

-- some filter is represented after a call that follows
pub some_on : {S : Type 0} {m : Meaning S} {call : Call} {told : Reply} {v v' : View S} {q q' : Supply} → Lawful q → Follows m call told v q v' q' → SomeFilter v → SomeFilter v'
some_on {S} {m} {call} {told} {v} {v'} {q} {q'} law go s =
    ∥∥₁_map s (λ (node, f, h). let r = go node (fed f q) (represents_fed node v f q law h) refl in (r.node', step m (fed f q) call (told_place told), r.represents))

-- the same of a call that asks nothing of the source
pub some_same : {S : Type 0} {m : Meaning S} {call : Call} {told : Reply} {v v' : View S} → ((q : Supply) → Follows m call told v q v' q) → SomeFilter v → SomeFilter v'
some_same {S} {m} {call} {told} {v} {v'} go s = ∥∥₁_map s (λ (node, f, h). let r = go f.source node f h refl in (r.node', step m f call (told_place told), r.represents))

-- a model of states, if there is one
any_model : {S : Type 0} (p : PathOf S) → 0 < length p → Meaning S
any_model [] h = absurd (omega arith)
any_model (x ∷ p) h = record { commands = λ c. true; readings = λ r. true; birth = λ r. x.state; move = λ s c r. s; score = λ s r. 0 }

-- a cloud in the other phases has 1 to 256 particles
pub particles : {S : Type 0} (node : ℕ → ℕ) (v : View S) (f : Filter S) → Represents node v f → (v.phase ≡ Empty → ⊥) → (1 ≤ length v.tips) × (length v.tips ≤ 256)
particles node v f h living =
    let r : in_range (length f.paths) ≡ true = h.sound.particles_in_range (λ e. living (sym h.phase ∙ e)) in
    let b = and_parts (leb 1 (length f.paths)) (leb (length f.paths) 256) r in
    (omega (arith, leb-true 1 (length f.paths) b.0, h.number), omega (arith, leb-true (length f.paths) 256 b.1, h.number))

-- a cloud with no particle is empty
pub nobody : {S : Type 0} (node : ℕ → ℕ) (v : View S) (f : Filter S) → Represents node v f → v.phase ≡ Empty → length v.tips ≡ 0
nobody node v f h e = sym h.number ∙ ap length (h.sound.nobody_while_empty (h.phase ∙ e))

-- a weighed cloud has a weight for each particle
pub each_weighed : {S : Type 0} (v : View S) → SomeFilter v → v.phase ≡ Weighed → length v.weights ≡ length v.tips
each_weighed v s e =
    let same = λ (node : ℕ → ℕ) (f : Filter _) (h : Represents node v f). sym (ap length (h.weights e)) ∙ h.sound.each_weighed (h.phase ∙ e) ∙ h.number in
    let low : length v.weights ≤ length v.tips = ∥∥₁_elim s le_prop (λ (node, f, h). omega (arith, same node f h)) in
    let high : length v.tips ≤ length v.weights = ∥∥₁_elim s le_prop (λ (node, f, h). omega (arith, same node f h)) in
    omega arith

-- there are at most 256 particles
pub few_particles : {S : Type 0} (v : View S) → SomeFilter v → (v.phase ≡ Empty → ⊥) → length v.tips ≤ 256
few_particles v s living = ∥∥₁_elim s le_prop (λ (node, f, h). (particles node v f h living).1)

path_begun : {S : Type 0} (node : ℕ → ℕ) (v : View S) (f : Filter S) → Represents node v f → (i : ℕ) → i < length v.tips → 0 < length (get_or f.paths i [])
path_begun node v f h i l =
    let e : length (get_or f.paths i []) ≡ f.round + 1 = All-get_or (λ p. length p ≡ f.round + 1) f.paths i [] (omega (arith, h.number)) h.sound.paths_as_long_as_round in
    omega arith

-- the same of a call that asks no model, while there are particles
pub some_living : {S : Type 0} {call : Call} {told : Reply} {v v' : View S} {q q' : Supply} → Lawful q → (v.phase ≡ Empty → ⊥) → ((m : Meaning S) → Follows m call told v q v' q') → SomeFilter v → SomeFilter v'
some_living {S} {call} {told} {v} {v'} {q} {q'} law living go s = ∥∥₁_map s (λ (node, f, h).
    let m : Meaning S = any_model (get_or f.paths 0 []) (path_begun node v f h 0 (particles node v f h living).0) in
    let r = go m node (fed f q) (represents_fed node v f q law h) refl in
    (r.node', step m (fed f q) call (told_place told), r.represents))

-- the same of a call that asks neither model nor source
pub some_free : {S : Type 0} {call : Call} {told : Reply} {v v' : View S} → ((node : ℕ → ℕ) (f : Filter S) → Represents node v f → (p : PathOf S) × (0 < length p)) → ((m : Meaning S) (q : Supply) → Follows m call told v q v' q) → SomeFilter v → SomeFilter v'
some_free {S} {call} {told} {v} {v'} find go s = ∥∥₁_map s (λ (node, f, h).
    let p = find node f h in
    let m : Meaning S = any_model p.0 p.1 in
    let r = go m f.source node f h refl in
    (r.node', step m f call (told_place told), r.represents))

pub living_path : {S : Type 0} (v : View S) → (v.phase ≡ Empty → ⊥) → (node : ℕ → ℕ) (f : Filter S) → Represents node v f → (p : PathOf S) × (0 < length p)
living_path v living node f h = (get_or f.paths 0 [], path_begun node v f h 0 (particles node v f h living).0)

-- what follows for every filter is a step of every lawful model
pub steps_of : {S : Type 0} (k : Kind S) (m : Meaning S) (call : Call) (told : Reply) (v v' : View S) (q q' : Supply) → Follows m call told v q v' q' → Steps k m call told v q v' q'
steps_of {S} k m call told v v' q q' go law node f h kind src = (go node f h src, step_states S k m law f call (told_place told) h.sound kind)

-- places alike stay alike, where the paths of open ones stay
pub alike_stays : {S : Type 0} (ls ms : List Link) (ss ts : List S) (serial serial' : ℕ → ℕ) (a : Option ℕ) (b : Option (PathOf S)) → ((node : ℕ) (p : PathOf S) → a ≡ Some node → Track ls ss serial (Some node) p → Track ms ts serial' (Some node) p) → Alike ls ss serial a b → Alike ms ts serial' a b
alike_stays ls ms ss ts serial serial' None None k x = x
alike_stays ls ms ss ts serial serial' None (Some p) k x = x
alike_stays ls ms ss ts serial serial' (Some n) None k x = x
alike_stays ls ms ss ts serial serial' (Some n) (Some p) k x = k n p refl x

-- the places stay alike, where what open ones name keeps its paths
pub places_stay : {S : Type 0} (ls ms : List Link) (ss ts : List S) (serial serial' : ℕ → ℕ) (holds : List (Option ℕ)) (places : List (Option (PathOf S))) (j : ℕ) → j < length holds → ((o : Option ℕ) (p : PathOf S) → IsNamed (λ k. sum_by (λ o. is_named o k) holds) o → Track ls ss serial o p → Track ms ts serial' o p)
    → Alike ls ss serial (get_or holds j None) (get_or places j None) → Alike ms ts serial' (get_or holds j None) (get_or places j None)
places_stay ls ms ss ts serial serial' holds places j l stays =
    alike_stays ls ms ss ts serial serial' (get_or holds j None) (get_or places j None)
    (λ k p e. stays (Some k) p (λ x y. let z : k ≡ x = cc in subst (λ a. 0 < sum_by (λ o. is_named o a) holds) z (let n = place_named [] holds j k l e in omega (arith, n))))

-- a cloud put together again from its fields is the cloud
pub same_cloud : {S : Type 0} (c : Cloud S) (r : SomeFilterOf c.forest.nodes.now c.forest.head c.forest.free c.tips.items c.weights.items c.holds c.phase c.round c.stamp)
    → ◌≡◌ {A = Cloud S} (record { forest = c.forest; rest = c.rest; tips = c.tips; weights = c.weights; holds = c.holds; phase = c.phase; round = c.round; stamp = c.stamp; represented = r }) c
same_cloud c r = λ j. record { forest = c.forest; rest = c.rest; tips = c.tips; weights = c.weights; holds = c.holds; phase = c.phase; round = c.round; stamp = c.stamp; represented = ∥∥₁_prop r c.represented j }
