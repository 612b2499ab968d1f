-- The ways through a finish.
use Rattle.std.proofs.Common.{◌≡◌, ℕ, ◌+◌, ◌<◌, List, [], length, get_or, None, sum_by, Option, sym, refl, ap, ◌∙◌, arith}
use mathlib.Core.Logic.{∥∥₁_map}
use Rattle.refusals.specs.declared.Refusal.TheVariants.{WrongPhase}
use Rattle.sources.specs.Supplies.{Supply}
use Rattle.models.specs.Meanings.{Meaning}
use Rattle.filter.specs.declared.phase.Phase.TheVariants.{Empty}
use Rattle.filter.specs.Filters.{Filter}
use Rattle.filter.specs.Calls.{finish}
use Rattle.filter.specs.Refusals.{is_living, refusal}
use Rattle.filter.specs.Steps.{granted}
use Rattle.filter.specs.Replies.{done, refused, nothing}
use Rattle.filter.proofs.Grants.{empty_not_weighed}
use Rattle.filter.proofs.Sounds.{sound_granted}
use Rattle.cloud.specs.declared.node.Node.{Node}
use Rattle.cloud.specs.Links.{links, states, Keeps}
use Rattle.cloud.specs.Trees.{is_node, is_named, Tree, SomeTreeAll}
use Rattle.cloud.specs.Tracks.{named}
use Rattle.cloud.specs.Representations.{View, Represents, SomeFilter}
use Rattle.cloud.specs.Promises.{Follows}
use Rattle.cloud.proofs.Trees.{tree_same}
use Rattle.cloud.proofs.Naming.{place_named}
use Rattle.cloud.proofs.Stepping.{passed, failed, taken_refused, taken_granted, stay_all, alike_stays}
use Rattle.cloud.proofs.Keeping.{living, freed_by, same_nodes, same_links, track_on}

-- the cloud with no particle, once its tree is so
abbrev pub finished_view : {S : Type 0} → View S → List (Node S) → Option ℕ → ℕ → List ℕ → View S
finished_view v nodes head free tips = record { nodes = nodes; head = head; free = free; tips = tips; weights = v.weights; holds = v.holds; phase = Empty; round = v.round; stamp = v.stamp }

-- the particles' nodes are named
pub finish_named : {S : Type 0} (v : View S) → SomeFilter v → SomeTreeAll (links v.nodes) v.head v.free v.tips
finish_named v s = ∥∥₁_map s (λ (node, f, h). (
  (λ k. sum_by (λ o. is_named o k) v.holds),
  h.serial,
  f.issued,
  tree_same (links v.nodes) v.head v.free (named v.tips v.holds) (λ k. sum_by (λ o. is_named o k) v.holds + sum_by (is_node k) v.tips) h.serial f.issued (λ k. omega arith) h.tree,
))

module _ {S : Type 0} (m : Meaning S) (q : Supply) (v : View S) where
  pub finish_wrong_phase : v.phase ≡ Empty → Follows m finish (refused WrongPhase) v q v q
  finish_wrong_phase e node f h src = taken_refused m finish v q node f WrongPhase h src (failed _ (ap is_living (h.phase ∙ e)))

  -- a finish that is granted: the nodes, their first free one, how many are free, and the tips
  module _ (nodes : List (Node S)) (head : Option ℕ) (left : ℕ) (tips : List ℕ) (freed : ℕ) (et : tips ≡ []) (ef : left ≡ v.free + freed) (kept : Keeps v.nodes nodes)
      (law : (w serial : ℕ → ℕ) (issued : ℕ) → Tree (links v.nodes) v.head v.free (λ k. w k + sum_by (is_node k) v.tips) serial issued → Tree (links nodes) head left w serial issued)
      (some_way : v.phase ≡ Empty → ⊥) where
    abbrev v' : View S
    v' = finished_view v nodes head left tips

    module _ (node : ℕ → ℕ) (f : Filter S) (h : Represents node v f) where
      open_call : refusal m f finish ≡ None
      open_call = passed _ (ap is_living h.phase ∙ living v.phase some_way)

      new_tree : Tree (links v'.nodes) v'.head v'.free (named v'.tips v'.holds) h.serial f.issued
      new_tree = tree_same (links v'.nodes) v'.head v'.free (λ k. sum_by (λ o. is_named o k) v.holds) (named v'.tips v'.holds) h.serial f.issued
          (λ k. let a : sum_by (is_node k) tips ≡ 0 = ap (sum_by (is_node k)) et in omega arith)
          (law (λ k. sum_by (λ o. is_named o k) v.holds) h.serial f.issued
          (tree_same (links v.nodes) v.head v.free (named v.tips v.holds) (λ k. sum_by (λ o. is_named o k) v.holds + sum_by (is_node k) v.tips) h.serial f.issued (λ k. omega arith) h.tree))

      finished : Represents node v' (granted m f finish 0)
      finished = record {
        sound = sound_granted m f h.sound finish 0 open_call;
        serial = h.serial;
        tree = new_tree;
        inverse = λ k l c. h.inverse k (omega (arith, same_links v v' kept)) (kept.same_parents k c).0;
        number = sym (ap length et);
        paths_are = λ i l. absurd (omega (arith, ap length et));
        sixteen = h.sixteen;
        places_are = λ i l.
            let l2 : i < length v.holds = omega (arith, h.sixteen) in
            alike_stays (links v.nodes) (links v'.nodes) (states v.nodes) (states v'.nodes) h.serial h.serial (get_or v.holds i None) (get_or f.places i None)
            (λ k p e r. track_on v v' kept h.serial f.issued k p h.tree new_tree (place_named v.tips v.holds i k l2 e) (place_named tips v.holds i k l2 e) r)
            (h.places_are i l);
        phase = refl;
        round = h.round;
        stamp = h.stamp;
        room = h.room ∙ sym (same_nodes v v' kept);
        weights = λ e. absurd (empty_not_weighed e);
      }

    pub finish_granted : Follows m finish (done 0 freed nothing) v q v' q
    finish_granted node f h src =
        taken_granted m finish v q node f 0 freed nothing v' q node (open_call node f h) tt (finished node f h) src refl
        (freed_by node node v v' f (granted m f finish 0) freed h (finished node f h) (same_nodes v v' kept) ef)
        refl (stay_all v node f.issued)
