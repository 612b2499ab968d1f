-- The ways through a hold.
use Rattle.std.proofs.Common.{◌≡◌, ℕ, zero, suc, ◌+◌, ◌^◌, ◌<◌, ◌≤◌, true, false, ltb, List, [], ◌∷◌, length, get_or, set, Some, None, Option, sym, refl, ap, ◌∙◌, subst, ⊎_elim, arith}
use mathlib.Core.Logic.{∥∥₁_elim}
use native.Mathlib.Bridge.{le_prop}
use Rattle.std.proofs.lemmas.Option.{none-some}
use Rattle.std.proofs.lemmas.Bool.{lt-ltb, le-ltb, cases_eq}
use Rattle.std.proofs.lemmas.List.{length-set, get_or-set_same, get_or-set_other}
use Rattle.refusals.specs.declared.Refusal.TheVariants.{WrongPhase, OutOfRange, NoPlaceLeft}
use Rattle.sources.specs.Supplies.{Supply}
use Rattle.models.specs.Meanings.{Meaning}
use Rattle.filter.specs.declared.phase.Phase.TheVariants.{Empty}
use Rattle.filter.specs.Filters.{PathOf, Filter}
use Rattle.filter.specs.Calls.{hold}
use Rattle.filter.specs.Refusals.{unless, is_living, some_closed, refusal}
use Rattle.filter.specs.Steps.{granted, path}
use Rattle.filter.specs.Replies.{done, refused, held}
use Rattle.filter.proofs.Sounds.{sound_granted}
use Rattle.cloud.specs.declared.node.Node.{Node}
use Rattle.cloud.specs.Links.{Link, links, states, link_at, no_link, Keeps}
use Rattle.cloud.specs.Trees.{is_node, is_named, is_child, Tree}
use Rattle.cloud.specs.Tracks.{Track, named}
use Rattle.cloud.specs.Representations.{View, Represents, Alike, SomeFilter}
use Rattle.cloud.specs.Promises.{Follows}
use Rattle.cloud.proofs.Links.{length-links}
use Rattle.cloud.proofs.Trees.{tree_same, named_used}
use Rattle.cloud.proofs.Naming.{particle_named, place_named, named_set, few_by, is_node_le, is_named_le, is_child_le}
use Rattle.cloud.proofs.Stepping.{passed, failed, taken_refused, taken_granted, stay_all, alike_stays}
use Rattle.cloud.proofs.Keeping.{living, freed_by, same_nodes, same_links, track_on}

-- the cloud that holds the path of a tip in a place, once its tree is so
abbrev pub held_view : {S : Type 0} → View S → ℕ → ℕ → List (Node S) → Option ℕ → ℕ → View S
held_view v tip place nodes head free = record { nodes = nodes; head = head; free = free; tips = v.tips; weights = v.weights; holds = set v.holds place (Some tip); phase = v.phase; round = v.round; stamp = v.stamp }

no_closed : {A : Type 0} (ps : List (Option A)) → ((j : ℕ) → j < length ps → get_or ps j None ≡ None → ⊥) → some_closed ps ≡ false
no_closed [] h = refl
no_closed (None ∷ ps) h = absurd (h 0 (omega arith) refl)
no_closed (Some p ∷ ps) h = no_closed ps (λ j l e. h (suc j) (omega arith) e)

one_closed : {A : Type 0} (ps : List (Option A)) (j : ℕ) → j < length ps → get_or ps j None ≡ None → some_closed ps ≡ true
one_closed [] j l e = absurd (omega arith)
one_closed (None ∷ ps) j l e = refl
one_closed (Some p ∷ ps) zero l e = absurd (none-some _ (sym e))
one_closed (Some p ∷ ps) (suc j) l e = one_closed ps j (omega arith) e

alike_closed : {S : Type 0} (ls : List Link) (ss : List S) (serial : ℕ → ℕ) (a : Option ℕ) (b : Option (PathOf S)) → Alike ls ss serial a b → b ≡ None → a ≡ None
alike_closed ls ss serial None b x e = refl
alike_closed ls ss serial (Some n) None x e = absurd x
alike_closed ls ss serial (Some n) (Some p) x e = absurd (none-some _ (sym e))

pub closed_alike : {S : Type 0} (ls : List Link) (ss : List S) (serial : ℕ → ℕ) (a : Option ℕ) (b : Option (PathOf S)) → Alike ls ss serial a b → a ≡ None → b ≡ None
closed_alike ls ss serial a None x e = refl
closed_alike ls ss serial None (Some p) x e = absurd x
closed_alike ls ss serial (Some n) (Some p) x e = absurd (none-some _ (sym e))

-- the node of a particle is in use, and one thing more can hang on it
module _ {S : Type 0} (v : View S) (s : SomeFilter v) (i : ℕ) (li : i < length v.tips) (high : length v.tips ≤ 256) where
  tip_used : (node : ℕ → ℕ) (f : Filter S) (h : Represents node v f) → (get_or v.tips i 0 < length (links v.nodes)) × (0 < (link_at (links v.nodes) (get_or v.tips i 0)).count)
  tip_used node f h = named_used (links v.nodes) v.head v.free (named v.tips v.holds) h.serial f.issued (get_or v.tips i 0) h.tree (particle_named v.tips v.holds i li)

  pub hold_inside : get_or v.tips i 0 < length v.nodes
  hold_inside = ∥∥₁_elim s le_prop (λ (node, f, h). omega (arith, (tip_used node f h).0, length-links v.nodes))

  pub hold_used : 0 < (link_at (links v.nodes) (get_or v.tips i 0)).count
  hold_used = ∥∥₁_elim s le_prop (λ (node, f, h). (tip_used node f h).1)

  pub hold_room : (link_at (links v.nodes) (get_or v.tips i 0)).count + 1 < 2 ^ 32
  hold_room = ∥∥₁_elim s le_prop (λ (node, f, h).
      let c = h.tree.counts (get_or v.tips i 0) (tip_used node f h).0 in
      let a = few_by (is_node (get_or v.tips i 0)) 0 (is_node_le (get_or v.tips i 0)) v.tips in
      let b = few_by (λ o. is_named o (get_or v.tips i 0)) None (λ o. is_named_le o (get_or v.tips i 0)) v.holds in
      let d = few_by (is_child (get_or v.tips i 0)) no_link (is_child_le (get_or v.tips i 0)) (links v.nodes) in
      omega (arith, c, a, b, d, h.sixteen, h.tree.few))

module _ {S : Type 0} (m : Meaning S) (q : Supply) (v : View S) (i : ℕ) where
  pub hold_wrong_phase : v.phase ≡ Empty → Follows m (hold i) (refused WrongPhase) v q v q
  hold_wrong_phase e node f h src = taken_refused m (hold i) v q node f WrongPhase h src
      (failed _ (ap is_living (h.phase ∙ e)))

  module _ (some_way : v.phase ≡ Empty → ⊥) where
    past_phase : (node : ℕ → ℕ) (f : Filter S) → Represents node v f → refusal m f (hold i) ≡ unless (ltb i (length f.paths)) OutOfRange (unless (some_closed f.places) NoPlaceLeft None)
    past_phase node f h =
        passed _ (ap is_living h.phase ∙ living v.phase some_way)

    pub hold_out_of_range : length v.tips ≤ i → Follows m (hold i) (refused OutOfRange) v q v q
    hold_out_of_range l node f h src = taken_refused m (hold i) v q node f OutOfRange h src
        (past_phase node f h ∙ failed _ (le-ltb i (length f.paths) (omega (arith, h.number))))

    module _ (li : i < length v.tips) where
      past_range : (node : ℕ → ℕ) (f : Filter S) → Represents node v f → refusal m f (hold i) ≡ unless (some_closed f.places) NoPlaceLeft None
      past_range node f h = past_phase node f h ∙ passed _ (lt-ltb i (length f.paths) (omega (arith, h.number)))

      pub hold_no_place : ((k : ℕ) → k < 16 → get_or v.holds k None ≡ None → ⊥) → Follows m (hold i) (refused NoPlaceLeft) v q v q
      hold_no_place full node f h src = taken_refused m (hold i) v q node f NoPlaceLeft h src
          (past_range node f h ∙ failed _
          (no_closed f.places (λ k l e.
          let l2 : k < 16 = omega (arith, h.sound.sixteen_places) in
          full k l2 (alike_closed (links v.nodes) (states v.nodes) h.serial (get_or v.holds k None) (get_or f.places k None) (h.places_are k l2) e))))

      -- a hold that is granted: the tip, the place, the nodes, their first free one, and how many are free
      module _ (tip : ℕ) (is : get_or v.tips i 0 ≡ tip) (p : ℕ) (lp : p < 16) (closed : get_or v.holds p None ≡ None) (nodes : List (Node S)) (head : Option ℕ) (left : ℕ) (ef : left ≡ v.free)
          (kept : Keeps v.nodes nodes)
          (law : (w serial : ℕ → ℕ) (issued : ℕ) → Tree (links v.nodes) v.head v.free w serial issued → Tree (links nodes) head left (λ k. w k + is_node k tip) serial issued) where
        abbrev v' : View S
        v' = held_view v tip p nodes head left

        module _ (node : ℕ → ℕ) (f : Filter S) (h : Represents node v f) where
          inside_holds : p < length v.holds
          inside_holds = omega (arith, h.sixteen)

          inside_places : p < length f.places
          inside_places = omega (arith, h.sound.sixteen_places)

          place_closed : get_or f.places p None ≡ None
          place_closed = closed_alike (links v.nodes) (states v.nodes) h.serial (get_or v.holds p None) (get_or f.places p None) (h.places_are p lp) closed

          open_call : refusal m f (hold i) ≡ None
          open_call = past_range node f h ∙ passed _ (one_closed f.places p inside_places place_closed)

          more : (k : ℕ) → named v'.tips v'.holds k ≡ named v.tips v.holds k + is_node k tip
          more k =
              let z : is_named (get_or v.holds p None) k ≡ 0 = ap (λ o. is_named o k) closed in
              let x = named_set v.tips v.holds p (Some tip) k inside_holds in
              omega (arith, z, x)

          new_tree : Tree (links v'.nodes) v'.head v'.free (named v'.tips v'.holds) h.serial f.issued
          new_tree = tree_same (links v'.nodes) v'.head v'.free (λ k. named v.tips v.holds k + is_node k tip) (named v'.tips v'.holds) h.serial f.issued more (law (named v.tips v.holds) h.serial f.issued h.tree)

          on : (k : ℕ) (r : PathOf S) → 0 < named v.tips v.holds k → Track (links v.nodes) (states v.nodes) h.serial (Some k) r → Track (links v'.nodes) (states v'.nodes) h.serial (Some k) r
          on k r a x = track_on v v' kept h.serial f.issued k r h.tree new_tree a (omega (arith, a, more k)) x

          particle_on : (j : ℕ) → j < length v.tips → Track (links v'.nodes) (states v'.nodes) h.serial (Some (get_or v.tips j 0)) (get_or f.paths j [])
          particle_on j l = on (get_or v.tips j 0) (get_or f.paths j []) (particle_named v.tips v.holds j l) (h.paths_are j l)

          holds_len : length v'.holds ≡ 16
          holds_len = length-set v.holds p (Some tip) ∙ h.sixteen

          place_same : Alike (links v'.nodes) (states v'.nodes) h.serial (get_or (set v.holds p (Some tip)) p None) (get_or (set f.places p (Some (path f i))) p None)
          place_same =
              subst (λ x. Alike (links v'.nodes) (states v'.nodes) h.serial x (get_or (set f.places p (Some (path f i))) p None)) (sym (get_or-set_same v.holds p (Some tip) None inside_holds))
              (subst (λ x. Alike (links v'.nodes) (states v'.nodes) h.serial (Some tip) x) (sym (get_or-set_same f.places p (Some (path f i)) None inside_places)) (subst (λ k. Track (links v'.nodes) (states v'.nodes) h.serial (Some k) (get_or f.paths i [])) is (particle_on i li)))

          place_other : (j : ℕ) → j < 16 → (j ≡ p → ⊥) → Alike (links v'.nodes) (states v'.nodes) h.serial (get_or (set v.holds p (Some tip)) j None) (get_or (set f.places p (Some (path f i))) j None)
          place_other j l ne =
              subst (λ x. Alike (links v'.nodes) (states v'.nodes) h.serial x (get_or (set f.places p (Some (path f i))) j None)) (sym (get_or-set_other v.holds p j (Some tip) None ne))
              (subst (λ x. Alike (links v'.nodes) (states v'.nodes) h.serial (get_or v.holds j None) x) (sym (get_or-set_other f.places p j (Some (path f i)) None ne))
              (alike_stays (links v.nodes) (links v'.nodes) (states v.nodes) (states v'.nodes) h.serial h.serial (get_or v.holds j None) (get_or f.places j None) (λ k r e x. on k r (place_named v.tips v.holds j k (omega (arith, h.sixteen)) e) x) (h.places_are j l)))

          held_path : Represents node v' (granted m f (hold i) p)
          held_path = record {
            sound = sound_granted m f h.sound (hold i) p open_call;
            serial = h.serial;
            tree = new_tree;
            inverse = λ k l c. h.inverse k (omega (arith, same_links v v' kept)) (kept.same_parents k c).0;
            number = h.number;
            paths_are = particle_on;
            sixteen = holds_len;
            places_are = λ j l.
                ⊎_elim
                (λ e. subst (λ x. Alike (links v'.nodes) (states v'.nodes) h.serial (get_or (set v.holds p (Some tip)) x None) (get_or (set f.places p (Some (path f i))) x None)) (sym e) place_same)
                (λ ne. place_other j l ne)
                (cases_eq j p);
            phase = h.phase;
            round = h.round;
            stamp = h.stamp;
            room = h.room ∙ sym (same_nodes v v' kept);
            weights = h.weights;
          }

        pub hold_granted : (stamp : ℕ) → stamp ≡ v.stamp → Follows m (hold i) (done 0 0 (held stamp p)) v q v' q
        hold_granted stamp e node f h src =
            let z : v'.free ≡ v.free + 0 = omega arith in
            taken_granted m (hold i) v q node f 0 0 (held stamp p) v' q node (open_call node f h) (inside_places node f h, place_closed node f h) (held_path node f h) src refl
            (freed_by node node v v' f (granted m f (hold i) p) 0 h (held_path node f h) (same_nodes v v' kept) z)
            (ap (λ x. held x p) (e ∙ sym h.stamp)) (stay_all v node f.issued)
