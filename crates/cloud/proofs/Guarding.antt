-- On states and known commands and readings, a guarded model is the model.
use Rattle.std.proofs.Common.{◌≡◌, ℕ, ◌+◌, true, cond, ◌&&◌, List, [], ◌∷◌, map, length, sym, refl, ap, ◌∙◌, subst}
use Rattle.std.specs.List.{AllByRecursion}
use Rattle.std.proofs.lemmas.Bool.{and_from, cond-true}
use Rattle.sources.specs.Supplies.{Supply}
use Rattle.models.specs.Kinds.{Kind}
use Rattle.models.specs.Meanings.{Meaning}
use Rattle.filter.specs.Filters.{PathOf, Filter}
use Rattle.filter.specs.Uses.{opened}
use Rattle.filter.specs.Calls.{Call, advance, weigh}
use Rattle.filter.specs.Refusals.{refusal}
use Rattle.filter.specs.Steps.{weight, all_longer, grown, with_weights, granted, settle, step}
use Rattle.resampling.specs.Marks.{total}
use Rattle.filter.specs.Replies.{Reply, weighing, told_place, replied, issued_by, freed, answer, reply}
use Rattle.filter.specs.Sound.{OfKind}
use Rattle.filter.proofs.Alls.{all_split}
use Rattle.filter.proofs.States.{step_states}
use Rattle.cloud.specs.Guards.{guarded}
use Rattle.cloud.specs.Representations.{View, Represents}
use Rattle.cloud.specs.Promises.{Stay, Taken, Follows, Steps}

module _ {S : Type 0} (k : Kind S) (m : Meaning S) where
  abbrev States : List (PathOf S) → Type 0
  States ps = AllByRecursion (AllByRecursion (λ x. k.is x.state ≡ true)) ps

  living_states : (f : Filter S) → OfKind k f → States f.paths
  living_states f h = (all_split (AllByRecursion (λ x. k.is x.state ≡ true)) f.paths (opened f.places) h).0

  module _ (f : Filter S) (c : ℕ) (known : m.commands c ≡ true) where
    longer_same : (i : ℕ) (ps : List (PathOf S)) → States ps → all_longer (guarded k m) f c i ps ≡ all_longer m f c i ps
    longer_same i [] h = refl
    longer_same i ([] ∷ ps) h = ap (λ us. [] ∷ us) (longer_same (i + 1) ps h.1)
    longer_same i ((x ∷ p) ∷ ps) h =
        let e : cond (k.is x.state && m.commands c) (m.move x.state c (f.source.to_come i)) x.state ≡ m.move x.state c (f.source.to_come i) = cond-true (k.is x.state && m.commands c) _ _ (and_from (k.is x.state) (m.commands c) h.0.0 known) in
        ap (λ (s : S). (record { state = s; serial = f.issued + i } ∷ x ∷ p) ∷ all_longer (guarded k m) f c (i + 1) ps) e
        ∙ ap (λ us. (record { state = m.move x.state c (f.source.to_come i); serial = f.issued + i } ∷ x ∷ p) ∷ us) (longer_same (i + 1) ps h.1)

    advance_same : (place : ℕ) → OfKind k f → granted (guarded k m) f (advance c) place ≡ granted m f (advance c) place
    advance_same place h = ap (grown f (f.round + 1) (length f.paths)) (longer_same 0 f.paths (living_states f h))

  module _ (q : ℕ) (known : m.readings q ≡ true) where
    weights_same : (ps : List (PathOf S)) → States ps → map (weight (guarded k m) q) ps ≡ map (weight m q) ps
    weights_same [] h = refl
    weights_same ([] ∷ ps) h = ap (λ us. 0 ∷ us) (weights_same ps h.1)
    weights_same ((x ∷ p) ∷ ps) h =
        let e : cond (k.is x.state && m.readings q) (m.score x.state q) 0 ≡ m.score x.state q = cond-true (k.is x.state && m.readings q) _ _ (and_from (k.is x.state) (m.readings q) h.0.0 known) in
        ap (λ w. w ∷ map (weight (guarded k m) q) ps) e ∙ ap (λ us. m.score x.state q ∷ us) (weights_same ps h.1)

-- a step under one model is a step under another that agrees with it
module _ {S : Type 0} (m m' : Meaning S) (call : Call) (told : Reply) (v v' : View S) (q' : Supply) (node : ℕ → ℕ) (f : Filter S)
    (er : refusal m f call ≡ refusal m' f call) (eg : granted m f call (told_place told) ≡ granted m' f call (told_place told)) (ea : answer m f call (told_place told) ≡ answer m' f call (told_place told)) where
  same_reply : reply m f call (told_place told) ≡ reply m' f call (told_place told)
  same_reply =
      ap (λ r. replied r (issued_by f call) (freed f (granted m f call (told_place told))) (answer m f call (told_place told))) er
      ∙ ap (λ (g : Filter S). replied (refusal m' f call) (issued_by f call) (freed f g) (answer m f call (told_place told))) eg
      ∙ ap (λ a. replied (refusal m' f call) (issued_by f call) (freed f (granted m' f call (told_place told))) a) ea

  same_step : step m f call (told_place told) ≡ step m' f call (told_place told)
  same_step = ap (λ r. settle r (granted m f call (told_place told)) f) er ∙ ap (λ (g : Filter S). settle (refusal m' f call) g f) eg

  taken_same : Taken m call told v v' q' node f → Taken m' call told v v' q' node f
  taken_same t = record {
    tells = record { reply_is = t.tells.reply_is ∙ same_reply; place_closed = t.tells.place_closed };
    node' = t.node';
    represents = subst (Represents t.node' v') same_step t.represents;
    source = ap (λ (g : Filter S). g.source) (sym same_step) ∙ t.source;
    stay = subst (λ (g : Filter S). Stay v node t.node' f.issued g.issued) same_step t.stay;
  }

module _ {S : Type 0} (k : Kind S) (m : Meaning S) {told : Reply} {v v' : View S} {q q' : Supply} where
  pub advance_guarded : (c : ℕ) → m.commands c ≡ true → Follows (guarded k m) (advance c) told v q v' q' → Steps k m (advance c) told v q v' q'
  advance_guarded c known go law node f h kind src = (
    taken_same (guarded k m) m (advance c) told v v' q' node f refl (advance_same k m f c known (told_place told) kind) refl (go node f h src),
    step_states S k m law f (advance c) (told_place told) h.sound kind,
  )

  pub weigh_guarded : (z : ℕ) → m.readings z ≡ true → Follows (guarded k m) (weigh z) told v q v' q' → Steps k m (weigh z) told v q v' q'
  weigh_guarded z known go law node f h kind src =
      let e : map (weight (guarded k m) z) f.paths ≡ map (weight m z) f.paths = weights_same k m z known f.paths (living_states k m f kind) in (
        taken_same (guarded k m) m (weigh z) told v v' q' node f refl (ap (with_weights f) e) (ap (λ ws. weighing (total ws)) e) (go node f h src),
        step_states S k m law f (weigh z) (told_place told) h.sound kind,
      )
