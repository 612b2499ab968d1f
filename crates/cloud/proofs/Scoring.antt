-- The ways through weighing.
use Rattle.std.proofs.Common.{◌≡◌, ℕ, suc, ◌<◌, true, false, List, [], ◌∷◌, map, length, get_or, Some, None, Option, sym, refl, ap, ◌∙◌, arith}
use mathlib.Core.Logic.{∥∥₁_elim}
use native.Mathlib.Bridge.{le_prop}
use Rattle.std.proofs.lemmas.List.{length-map, get_or-map}
use Rattle.refusals.specs.declared.Refusal.TheVariants.{WrongPhase, Unknown}
use Rattle.resampling.specs.Marks.{total}
use Rattle.sources.specs.Supplies.{Supply}
use Rattle.models.specs.Meanings.{Meaning}
use Rattle.filter.specs.declared.phase.Phase.TheVariants.{Level, Weighed}
use Rattle.filter.specs.Filters.{PathOf, Filter}
use Rattle.filter.specs.Calls.{weigh}
use Rattle.filter.specs.Refusals.{unless, is_level, refusal}
use Rattle.filter.specs.Steps.{weight, granted}
use Rattle.filter.specs.Replies.{done, refused, weighing}
use Rattle.filter.proofs.Sounds.{sound_granted}
use Rattle.cloud.specs.declared.node.Node.{Node}
use Rattle.cloud.specs.Links.{links, states}
use Rattle.cloud.specs.Tracks.{Track, named}
use Rattle.cloud.specs.Representations.{View, Represents, SomeFilter}
use Rattle.cloud.specs.Promises.{Follows}
use Rattle.cloud.proofs.Links.{length-links}
use Rattle.cloud.proofs.Trees.{named_used}
use Rattle.cloud.proofs.Naming.{particle_named}
use Rattle.cloud.proofs.Stepping.{passed, failed, taken_refused, taken_granted, stay_all}
use Rattle.cloud.proofs.Keeping.{freed_by}
use Rattle.cloud.proofs.Advancing.{not_level}

-- the weighed cloud, over the same tree
abbrev pub weighed_view : {S : Type 0} → View S → List (Node S) → Option ℕ → ℕ → List ℕ → View S
weighed_view v nodes head free weights = record { nodes = nodes; head = head; free = free; tips = v.tips; weights = weights; holds = v.holds; phase = Weighed; round = v.round; stamp = v.stamp }

-- lists that agree at every place
lists_same : (xs ys : List ℕ) → length xs ≡ length ys → ((i : ℕ) → i < length xs → get_or xs i 0 ≡ get_or ys i 0) → xs ≡ ys
lists_same [] [] e h = refl
lists_same [] (y ∷ ys) e h = absurd (omega arith)
lists_same (x ∷ xs) [] e h = absurd (omega arith)
lists_same (x ∷ xs) (y ∷ ys) e h =
    let a : x ≡ y = h 0 (omega arith) in
    let b : xs ≡ ys = lists_same xs ys (omega arith) (λ i l. h (suc i) (omega arith)) in
    cc

-- the newest nodes lie among the nodes
pub tips_inside : {S : Type 0} (v : View S) → SomeFilter v → (i : ℕ) → i < length v.tips → get_or v.tips i 0 < length v.nodes
tips_inside v s i l = ∥∥₁_elim s le_prop (λ (node, f, h).
    omega (arith, (named_used (links v.nodes) v.head v.free (named v.tips v.holds) h.serial f.issued (get_or v.tips i 0) h.tree (particle_named v.tips v.holds i l)).0, length-links v.nodes))

module _ {S : Type 0} (m : Meaning S) (z : ℕ) (q : Supply) (v : View S) where
  pub weigh_wrong_phase : (v.phase ≡ Level → ⊥) → Follows m (weigh z) (refused WrongPhase) v q v q
  weigh_wrong_phase no_way node f h src = taken_refused m (weigh z) v q node f WrongPhase h src
      (failed _ (ap is_level h.phase ∙ not_level v.phase no_way))

  module _ (level_now : v.phase ≡ Level) where
    past_phase : (node : ℕ → ℕ) (f : Filter S) → Represents node v f → refusal m f (weigh z) ≡ unless (m.readings z) Unknown None
    past_phase node f h = passed _ (ap is_level (h.phase ∙ level_now))

    pub weigh_unknown : m.readings z ≡ false → Follows m (weigh z) (refused Unknown) v q v q
    weigh_unknown bad node f h src = taken_refused m (weigh z) v q node f Unknown h src (past_phase node f h ∙ failed _ bad)

    -- weighing that is granted
    module _ (known : m.readings z ≡ true) (weights : List ℕ) (sum : ℕ) (number : length weights ≡ length v.tips)
        (scores : (i : ℕ) (d : S) → i < length v.tips → get_or weights i 0 ≡ m.score (get_or (states v.nodes) (get_or v.tips i 0) d) z) (is_sum : sum ≡ total weights) where
      abbrev v' : View S
      v' = weighed_view v v.nodes v.head v.free weights

      module _ (node : ℕ → ℕ) (f : Filter S) (h : Represents node v f) where
        open_call : refusal m f (weigh z) ≡ None
        open_call = past_phase node f h ∙ passed _ known

        weight_of : (i : ℕ) (p : PathOf S) → i < length v.tips → Track (links v.nodes) (states v.nodes) h.serial (Some (get_or v.tips i 0)) p → weight m z p ≡ get_or weights i 0
        weight_of i [] l r = absurd (let y : ◌≡◌ {A = ℕ} 0 1 = cc in omega arith)
        weight_of i (x ∷ p) l (k, e, lk, s, d, r) =
            let y : get_or v.tips i 0 ≡ k = cc in
            ap (λ (u : S). m.score u z) (sym (d x.state) ∙ ap (λ j. get_or (states v.nodes) j x.state) (sym y)) ∙ sym (scores i x.state l)

        weights_are : map (weight m z) f.paths ≡ weights
        weights_are =
            let len : length (map (weight m z) f.paths) ≡ length v.tips = length-map f.paths (weight m z) ∙ h.number in
            lists_same (map (weight m z) f.paths) weights (len ∙ sym number)
            (λ i l.
            let l2 : i < length v.tips = omega (arith, len) in
            get_or-map (weight m z) f.paths i [] 0 (omega (arith, h.number)) ∙ weight_of i (get_or f.paths i []) l2 (h.paths_are i l2))

        weighed : Represents node v' (granted m f (weigh z) 0)
        weighed = record {
          sound = sound_granted m f h.sound (weigh z) 0 open_call;
          serial = h.serial;
          tree = h.tree;
          inverse = h.inverse;
          number = h.number;
          paths_are = h.paths_are;
          sixteen = h.sixteen;
          places_are = h.places_are;
          phase = refl;
          round = h.round;
          stamp = h.stamp;
          room = h.room;
          weights = λ e. weights_are;
        }

      pub weigh_granted : Follows m (weigh z) (done 0 0 (weighing sum)) v q v' q
      weigh_granted node f h src =
          taken_granted m (weigh z) v q node f 0 0 (weighing sum) v' q node (open_call node f h) tt (weighed node f h) src refl
          (freed_by node node v v' f (granted m f (weigh z) 0) 0 h (weighed node f h) refl (omega arith))
          (ap weighing (is_sum ∙ sym (ap total (weights_are node f h))))
          (stay_all v node f.issued)
