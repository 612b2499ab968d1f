-- The ways through a give back.
use Rattle.std.proofs.Common.{◌≡◌, ℕ, ◌+◌, ◌<◌, eqb, ◌≢◌, List, [], ◌∷◌, length, get_or, set, is_some, Some, None, Option, sym, refl, ap, ◌∙◌, subst, ⊎_elim, arith}
use mathlib.Core.Logic.{∥∥₁_map}
use Rattle.std.proofs.lemmas.Option.{none-some}
use Rattle.std.proofs.lemmas.Bool.{cases_eq, cases_lt, and_from, and_left, and_right, eq-eqb, ne_eqb}
use Rattle.std.proofs.lemmas.List.{length-set, get_or-set_same, get_or-set_other, get_or_past}
use Rattle.refusals.specs.declared.Refusal.TheVariants.{NotHeld}
use Rattle.sources.specs.Supplies.{Supply}
use Rattle.models.specs.Meanings.{Meaning}
use Rattle.filter.specs.Filters.{PathOf, Filter}
use Rattle.filter.specs.Calls.{give_back}
use Rattle.filter.specs.Refusals.{refusal}
use Rattle.filter.specs.Steps.{granted}
use Rattle.filter.specs.Replies.{done, refused, nothing}
use Rattle.filter.proofs.Sounds.{sound_granted}
use Rattle.cloud.specs.declared.node.Node.{Node}
use Rattle.cloud.specs.Links.{Link, links, states, Keeps}
use Rattle.cloud.specs.Trees.{is_node, is_named, Tree, SomeTreeAt}
use Rattle.cloud.specs.Tracks.{Track, named}
use Rattle.cloud.specs.Representations.{View, Represents, Alike, SomeFilter}
use Rattle.cloud.specs.Promises.{Follows}
use Rattle.cloud.proofs.Trees.{tree_same}
use Rattle.cloud.proofs.Naming.{particle_named, place_named, named_set}
use Rattle.cloud.proofs.Stepping.{passed, failed, taken_refused, taken_granted, stay_all, alike_stays}
use Rattle.cloud.proofs.Keeping.{freed_by, same_nodes, same_links, track_on}
use Rattle.cloud.proofs.Retaining.{closed_alike}

-- the cloud with a place closed, once its tree is so
abbrev pub returned_view : {S : Type 0} → View S → ℕ → List (Node S) → Option ℕ → ℕ → View S
returned_view v place nodes head free = record { nodes = nodes; head = head; free = free; tips = v.tips; weights = v.weights; holds = set v.holds place None; phase = v.phase; round = v.round; stamp = v.stamp }

-- the path in an open place
open_path : {S : Type 0} (ls : List Link) (ss : List S) (serial : ℕ → ℕ) (a : Option ℕ) (b : Option (PathOf S)) (n : ℕ) → Alike ls ss serial a b → a ≡ Some n → (p : PathOf S) × (b ≡ Some p) × (0 < length p)
open_path ls ss serial None b n x e = absurd (let z : ◌≡◌ {A = ℕ} 0 1 = cc in omega arith)
open_path ls ss serial (Some k) None n x e = absurd x
open_path ls ss serial (Some k) (Some []) n x e = absurd (let z : ◌≡◌ {A = ℕ} 0 1 = cc in omega arith)
open_path ls ss serial (Some k) (Some (y ∷ p)) n x e = (y ∷ p, refl, omega arith)

pub returned_path : {S : Type 0} (v : View S) (j n : ℕ) → j < 16 → get_or v.holds j None ≡ Some n → (node : ℕ → ℕ) (f : Filter S) → Represents node v f → (p : PathOf S) × (0 < length p)
returned_path v j n l e node f h =
    let r = open_path (links v.nodes) (states v.nodes) h.serial (get_or v.holds j None) (get_or f.places j None) n (h.places_are j l) e in
    (r.0, r.2)

module _ {S : Type 0} (m : Meaning S) (q : Supply) (v : View S) (stamp p : ℕ) where
  pub return_other_stamp : stamp ≢ v.stamp → Follows m (give_back stamp p) (refused NotHeld) v q v q
  return_other_stamp ne node f h src = taken_refused m (give_back stamp p) v q node f NotHeld h src
      (failed _ (and_left (eqb stamp f.stamp) (is_some (get_or f.places p None)) (ne_eqb stamp f.stamp (λ e. ne (e ∙ h.stamp)))))

  pub return_closed : get_or v.holds p None ≡ None → Follows m (give_back stamp p) (refused NotHeld) v q v q
  return_closed e node f h src =
      let closed : get_or f.places p None ≡ None = ⊎_elim
      (λ l. closed_alike (links v.nodes) (states v.nodes) h.serial (get_or v.holds p None) (get_or f.places p None) (h.places_are p l) e)
      (λ l. get_or_past f.places p None (omega (arith, h.sound.sixteen_places)))
      (cases_lt p 16) in
      taken_refused m (give_back stamp p) v q node f NotHeld h src
      (failed _ (and_right (eqb stamp f.stamp) (is_some (get_or f.places p None)) (ap is_some closed)))

-- an open place is one of the sixteen
pub open_inside : (holds : List (Option ℕ)) (p nd : ℕ) → length holds ≡ 16 → get_or holds p None ≡ Some nd → p < 16
open_inside holds p nd sixteen e = ⊎_elim (λ l. l) (λ l. absurd (none-some _ (sym (get_or_past holds p None (omega arith)) ∙ e))) (cases_lt p 16)

module _ {S : Type 0} (v : View S) (p : ℕ) (lp : p < 16) (nd : ℕ) (at_p : get_or v.holds p None ≡ Some nd) where
  -- the tree, with the hold's name of its node apart
  less_one : (node : ℕ → ℕ) (f : Filter S) (h : Represents node v f) → Tree (links v.nodes) v.head v.free (λ k. named v.tips (set v.holds p None) k + is_node k nd) h.serial f.issued
  less_one node f h = tree_same (links v.nodes) v.head v.free (named v.tips v.holds) (λ k. named v.tips (set v.holds p None) k + is_node k nd) h.serial f.issued
      (λ k. let z : is_named (get_or v.holds p None) k ≡ is_node k nd = ap (λ o. is_named o k) at_p in omega (arith, named_set v.tips v.holds p None k (omega (arith, h.sixteen)), z)) h.tree

  pub return_named : SomeFilter v → SomeTreeAt (links v.nodes) v.head v.free nd
  return_named s = ∥∥₁_map s (λ (node, f, h). (named v.tips (set v.holds p None), h.serial, f.issued, less_one node f h))

  -- a give back that is granted: the nodes, their first free one, and how many are free
  module _ (nodes : List (Node S)) (head : Option ℕ) (left freed : ℕ) (ef : left ≡ v.free + freed) (kept : Keeps v.nodes nodes)
      (law : (w serial : ℕ → ℕ) (issued : ℕ) → Tree (links v.nodes) v.head v.free (λ k. w k + is_node k nd) serial issued → Tree (links nodes) head left w serial issued)
      (m : Meaning S) (q : Supply) (stamp : ℕ) (e-stamp : stamp ≡ v.stamp) where
    abbrev v' : View S
    v' = returned_view v p nodes head left

    module _ (node : ℕ → ℕ) (f : Filter S) (h : Represents node v f) where
      inside_holds : p < length v.holds
      inside_holds = omega (arith, h.sixteen)

      inside_places : p < length f.places
      inside_places = omega (arith, h.sound.sixteen_places)

      open_call : refusal m f (give_back stamp p) ≡ None
      open_call =
          let r = open_path (links v.nodes) (states v.nodes) h.serial (get_or v.holds p None) (get_or f.places p None) nd (h.places_are p lp) at_p in
          passed _ (and_from (eqb stamp f.stamp) (is_some (get_or f.places p None)) (eq-eqb stamp f.stamp (e-stamp ∙ sym h.stamp)) (ap is_some r.1))

      new_tree : Tree (links v'.nodes) v'.head v'.free (named v'.tips v'.holds) h.serial f.issued
      new_tree = (law (named v.tips (set v.holds p None)) h.serial f.issued (less_one node f h))

      on : (k : ℕ) (r : PathOf S) → 0 < named v.tips v.holds k → 0 < named v.tips (set v.holds p None) k → Track (links v.nodes) (states v.nodes) h.serial (Some k) r → Track (links v'.nodes) (states v'.nodes) h.serial (Some k) r
      on k r a b x = track_on v v' kept h.serial f.issued k r h.tree new_tree a b x

      particle_on : (j : ℕ) → j < length v.tips → Track (links v'.nodes) (states v'.nodes) h.serial (Some (get_or v.tips j 0)) (get_or f.paths j [])
      particle_on j l = on (get_or v.tips j 0) (get_or f.paths j []) (particle_named v.tips v.holds j l) (particle_named v.tips (set v.holds p None) j l) (h.paths_are j l)

      place_same : Alike (links v'.nodes) (states v'.nodes) h.serial (get_or (set v.holds p None) p None) (get_or (set f.places p None) p None)
      place_same =
          subst (λ x. Alike (links v'.nodes) (states v'.nodes) h.serial x (get_or (set f.places p None) p None)) (sym (get_or-set_same v.holds p None None inside_holds))
          (subst (λ x. Alike (links v'.nodes) (states v'.nodes) h.serial None x) (sym (get_or-set_same f.places p None None inside_places)) tt)

      place_other : (j : ℕ) → j < 16 → (j ≡ p → ⊥) → Alike (links v'.nodes) (states v'.nodes) h.serial (get_or (set v.holds p None) j None) (get_or (set f.places p None) j None)
      place_other j l ne =
          let other : get_or (set v.holds p None) j None ≡ get_or v.holds j None = get_or-set_other v.holds p j None None ne in
          let l2 : j < length v.holds = omega (arith, h.sixteen) in
          let l3 : j < length (set v.holds p None) = omega (arith, length-set v.holds p None) in
          subst (λ x. Alike (links v'.nodes) (states v'.nodes) h.serial x (get_or (set f.places p None) j None)) (sym other)
          (subst (λ x. Alike (links v'.nodes) (states v'.nodes) h.serial (get_or v.holds j None) x) (sym (get_or-set_other f.places p j None None ne))
          (alike_stays (links v.nodes) (links v'.nodes) (states v.nodes) (states v'.nodes) h.serial h.serial (get_or v.holds j None) (get_or f.places j None) (λ k r e x. on k r (place_named v.tips v.holds j k l2 e) (place_named v.tips (set v.holds p None) j k l3 (other ∙ e)) x) (h.places_are j l)))

      returned : Represents node v' (granted m f (give_back stamp p) 0)
      returned = record {
        sound = sound_granted m f h.sound (give_back stamp p) 0 open_call;
        serial = h.serial;
        tree = new_tree;
        inverse = λ k l c. h.inverse k (omega (arith, same_links v v' kept)) (kept.same_parents k c).0;
        number = h.number;
        paths_are = particle_on;
        sixteen = length-set v.holds p None ∙ h.sixteen;
        places_are = λ j l.
            ⊎_elim
            (λ e. subst (λ x. Alike (links v'.nodes) (states v'.nodes) h.serial (get_or (set v.holds p None) x None) (get_or (set f.places p None) x None)) (sym e) place_same)
            (λ ne. place_other j l ne)
            (cases_eq j p);
        phase = h.phase;
        round = h.round;
        stamp = h.stamp;
        room = h.room ∙ sym (same_nodes v v' kept);
        weights = h.weights;
      }

    pub return_granted : Follows m (give_back stamp p) (done 0 freed nothing) v q v' q
    return_granted node f h src =
        taken_granted m (give_back stamp p) v q node f 0 freed nothing v' q node (open_call node f h) tt (returned node f h) src refl
        (freed_by node node v v' f (granted m f (give_back stamp p) 0) freed h (returned node f h) (same_nodes v v' kept) ef)
        refl (stay_all v node f.issued)
