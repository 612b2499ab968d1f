-- What a granted call tells of the filter before it. Assumes nothing.
use Rattle.std.proofs.Common.{◌≡◌, ℕ, ◌+◌, ◌<◌, ◌≤◌, Bool, true, false, [], map, length, Some, None, Option, sym, refl, ap, ◌∙◌, zero-add, arith}
use Rattle.std.specs.List.{AllByRecursion}
use Rattle.std.proofs.ByRecursion.{All-get_or, All-from_get_or, All-map, All-weaker}
use Rattle.std.proofs.lemmas.Bool.{ltb-true, leb-true}
use Rattle.refusals.specs.declared.Refusal.{Refusal}
use Rattle.resampling.specs.Marks.{total, offset}
use Rattle.resampling.specs.Calls.{in_range}
use Rattle.resampling.specs.Systematic.{Systematic}
use Rattle.resampling.proofs.Owners.{offset_below}
use Rattle.resampling.proofs.Shares.{systematic}
use Rattle.sources.specs.Supplies.{Supply, Lawful, after}
use Rattle.models.specs.Meanings.{Meaning}
use Rattle.filter.specs.declared.phase.Phase.{Phase}
use Rattle.filter.specs.declared.phase.Phase.TheVariants.{Empty, Level, Weighed}
use Rattle.filter.specs.Filters.{PathOf, Filter}
use Rattle.filter.specs.Uses.{free}
use Rattle.filter.specs.Calls.{start, advance, weigh, resample, hold}
use Rattle.filter.specs.Refusals.{is_empty, is_level, is_weighed, is_living, some_closed, unless, refusal}
use Rattle.filter.specs.Steps.{path, parents_now}
use Rattle.filter.specs.Sound.{Sound}

none_some : {A : Type 0} (x : A) → Some x ≡ None → ⊥
none_some x e = let z : ◌≡◌ {A = ℕ} 0 1 = cc in omega arith

false_true : false ≡ true → ⊥
false_true e = let z : ◌≡◌ {A = ℕ} 0 1 = cc in omega arith

-- a test that was passed
pub unless_none : (b : Bool) (e : Refusal) (r : Option Refusal) → unless b e r ≡ None → (b ≡ true) × (r ≡ None)
unless_none true e r h = (refl, h)
unless_none false e r h = absurd (none_some e h)

pub empty_now : (p : Phase) → is_empty p ≡ true → p ≡ Empty
empty_now Empty e = refl
empty_now Level e = absurd (false_true e)
empty_now Weighed e = absurd (false_true e)

pub not_empty_if_level : (p : Phase) → is_level p ≡ true → p ≡ Empty → ⊥
not_empty_if_level p e h = false_true (sym (ap is_level h) ∙ e)

pub weighed_now : (p : Phase) → is_weighed p ≡ true → p ≡ Weighed
weighed_now Empty e = absurd (false_true e)
weighed_now Level e = absurd (false_true e)
weighed_now Weighed e = refl

pub level_not_empty : Level ≡ Empty → ⊥
level_not_empty e = let z : ◌≡◌ {A = ℕ} 0 1 = cc in omega arith

pub level_not_weighed : Level ≡ Weighed → ⊥
level_not_weighed e = let z : ◌≡◌ {A = ℕ} 0 1 = cc in omega arith

pub empty_not_weighed : Empty ≡ Weighed → ⊥
empty_not_weighed e = let z : ◌≡◌ {A = ℕ} 0 1 = cc in omega arith

pub weighed_not_empty : Weighed ≡ Empty → ⊥
weighed_not_empty e = let z : ◌≡◌ {A = ℕ} 0 1 = cc in omega arith

pub lawful_after : (s : Supply) (n : ℕ) → Lawful s → s.can n ≡ true → Lawful (after n s)
lawful_after s n l h = record {
  none = ap s.can (zero-add n) ∙ h;
  fewer = λ k e. l.fewer (k + n) (ap s.can (let q : k + n + 1 ≡ k + 1 + n = omega arith in q) ∙ e);
  below = λ k. l.below (k + n);
}

module _ {S : Type 0} (m : Meaning S) (f : Filter S) where
  pub record Starts (n : ℕ) : Type 0 where
    pub empty : f.phase ≡ Empty
    pub ranged : in_range n ≡ true
    pub roomy : n ≤ free f
    pub supplied : f.source.can n ≡ true

  pub starts : (n : ℕ) → refusal m f (start n) ≡ None → Starts n
  starts n e =
      let a = unless_none _ _ _ e in
      let b = unless_none _ _ _ a.1 in
      let c = unless_none _ _ _ b.1 in
      let d = unless_none _ _ _ c.1 in
      record { empty = empty_now _ a.0; ranged = b.0; roomy = leb-true _ _ c.0; supplied = d.0 }

  pub record Advances (c : ℕ) : Type 0 where
    pub living : f.phase ≡ Empty → ⊥
    pub known : m.commands c ≡ true
    pub roomy : length f.paths ≤ free f
    pub supplied : f.source.can (length f.paths) ≡ true

  pub advances : (c : ℕ) → refusal m f (advance c) ≡ None → Advances c
  advances c e =
      let a = unless_none _ _ _ e in
      let b = unless_none _ _ _ a.1 in
      let g = unless_none _ _ _ b.1 in
      let d = unless_none _ _ _ g.1 in
      record { living = not_empty_if_level _ a.0; known = b.0; roomy = leb-true _ _ g.0; supplied = d.0 }

  pub record Weighs (q : ℕ) : Type 0 where
    pub living : f.phase ≡ Empty → ⊥
    pub known : m.readings q ≡ true

  pub weighs : (q : ℕ) → refusal m f (weigh q) ≡ None → Weighs q
  weighs q e =
      let a = unless_none _ _ _ e in
      let b = unless_none _ _ _ a.1 in
      record { living = not_empty_if_level _ a.0; known = b.0 }

  pub record Holds (k : ℕ) : Type 0 where
    pub living : is_living f.phase ≡ true
    pub inside : k < length f.paths
    pub place_left : some_closed f.places ≡ true

  pub holds : (k : ℕ) → refusal m f (hold k) ≡ None → Holds k
  holds k e =
      let a = unless_none _ _ _ e in
      let b = unless_none _ _ _ a.1 in
      let c = unless_none _ _ _ b.1 in
      record { living = a.0; inside = ltb-true _ _ b.0; place_left = c.0 }

  -- a granted resampling: the weights are the particles', and the parents are those of the marks
  pub record Resamples : Type 0 where
    pub living : f.phase ≡ Empty → ⊥
    pub weights_all : length f.weights ≡ length f.paths
    pub supplied : f.source.can 1 ≡ true
    pub marked : Systematic f.weights (offset (f.source.to_come 0) (total f.weights)) (parents_now f)

  pub resamples : Sound f → refusal m f resample ≡ None → Resamples
  resamples s e =
      let a = unless_none _ _ _ e in
      let b = unless_none _ _ _ a.1 in
      let c = unless_none _ _ _ b.1 in
      let now : f.phase ≡ Weighed = weighed_now _ a.0 in
      record {
        living = λ h. weighed_not_empty (sym now ∙ h);
        weights_all = s.each_weighed now;
        supplied = b.0;
        marked = systematic f.weights (offset (f.source.to_come 0) (total f.weights)) (offset_below (f.source.to_come 0) (total f.weights) (ltb-true _ _ c.0) (s.supply_lawful.below 0));
      }

  pub count_parents : Resamples → length (parents_now f) ≡ length f.paths
  count_parents r = r.marked.count ∙ r.weights_all

  parents_within : Resamples → AllByRecursion (λ i. i < length f.paths) (parents_now f)
  parents_within r =
      All-from_get_or (λ i. i < length f.paths) (parents_now f) 0
      (λ k h. omega (arith, r.weights_all, r.marked.count, (r.marked.marked k (omega (arith, r.marked.count))).within))

  -- the new paths of a granted resampling are old ones
  pub all_resampled : (P : PathOf S → Type 0) → Resamples → AllByRecursion P f.paths → AllByRecursion P (map (path f) (parents_now f))
  all_resampled P r h =
      All-map P (path f) (parents_now f)
      (All-weaker (λ i. i < length f.paths) (λ i. P (path f i)) (λ i l. All-get_or P f.paths i [] l h) (parents_now f) (parents_within r))
