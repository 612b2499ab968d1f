-- What stands after every run. Assumes nothing.
use Rattle.std.proofs.Common.{◌≡◌, ℕ, ◌+◌, ◌≤◌, true, List, [], ◌∷◌, Some, None, Option, sym, refl, ap, ◌∙◌, subst, add-zero, arith}
use Rattle.std.specs.List.{AllByRecursion}
use Rattle.std.proofs.lemmas.Bool.{false≢true}
use Rattle.refusals.specs.declared.Refusal.{Refusal}
use Rattle.resampling.specs.Children.{Fair}
use Rattle.sources.specs.Supplies.{Supply, after}
use Rattle.sources.proofs.Draws.{after_none, after_after}
use Rattle.models.specs.Meanings.{Meaning}
use Rattle.filter.specs.Filters.{Filter, fresh}
use Rattle.filter.specs.Uses.{all_paths, in_use}
use Rattle.filter.specs.Calls.{Call, start, advance, weigh, resample, hold, give_back, finish}
use Rattle.filter.specs.Refusals.{refusal}
use Rattle.filter.specs.Steps.{parents_now, granted, settle}
use Rattle.filter.specs.Replies.{Answer, Reply, refused, done, issued_by, replied, told_issued, told_freed, told_place}
use Rattle.filter.specs.Runs.{Turn, all_issued, all_freed, drawn_in, all_drawn, reached, Told}
use Rattle.filter.specs.Sound.{Sound}
use Rattle.filter.specs.Makings.{Making, making, makings, AllApart}
use Rattle.filter.specs.Descents.{Descends}
use Rattle.filter.specs.Genealogies.{is_done, AllFair}
use Rattle.filter.specs.Theorems.{EveryRunIsSound, EveryRunKeepsStates, EveryRunHasItsGenealogy}
use Rattle.filter.proofs.Grants.{resamples}
use Rattle.filter.proofs.Sounds.{step_sound, step_balances, fresh_sound}
use Rattle.filter.proofs.States.{step_states}
use Rattle.filter.proofs.Makings.{Within, within_more, apart_more}
use Rattle.filter.proofs.Descents.{all_more, descends_granted}

-- One turn

module _ {S : Type 0} (m : Meaning S) (f : Filter S) (s : Sound f) (call : Call) (place fr : ℕ) (a : Answer) (told : Reply) where
  -- a reply that a call's refusal leads to
  abbrev ToldBy : Option Refusal → Type 0
  ToldBy r = told ≡ replied r (issued_by f call) fr a

  nothing_drawn : (c : Call) (x : Refusal) → drawn_in c (refused x) ≡ 0
  nothing_drawn (start n) x = refl
  nothing_drawn (advance c) x = refl
  nothing_drawn (weigh q) x = refl
  nothing_drawn resample x = refl
  nothing_drawn (hold k) x = refl
  nothing_drawn (give_back stamp given) x = refl
  nothing_drawn finish x = refl

  each_drawn : (c : Call) → issued_by f c ≤ drawn_in c (done (issued_by f c) fr a)
  each_drawn (start n) = omega arith
  each_drawn (advance c) = omega arith
  each_drawn (weigh q) = omega arith
  each_drawn resample = omega arith
  each_drawn (hold k) = omega arith
  each_drawn (give_back stamp given) = omega arith
  each_drawn finish = omega arith

  -- one number at least was drawn for each node
  draws : (r : Option Refusal) → ToldBy r → told_issued told ≤ drawn_in call told
  draws None w = subst (λ (t : Reply). told_issued t ≤ drawn_in call t) (sym w) (each_drawn call)
  draws (Some x) w = subst (λ (t : Reply). told_issued t ≤ drawn_in call t) (sym w) (omega arith)

  issued_granted : (c : Call) → (granted m f c place).issued ≡ f.issued + issued_by f c
  issued_granted (start n) = refl
  issued_granted (advance c) = refl
  issued_granted (weigh q) = sym (add-zero f.issued)
  issued_granted resample = sym (add-zero f.issued)
  issued_granted (hold k) = sym (add-zero f.issued)
  issued_granted (give_back stamp given) = sym (add-zero f.issued)
  issued_granted finish = sym (add-zero f.issued)

  issued_settled : (r : Option Refusal) → ToldBy r → (settle r (granted m f call place) f).issued ≡ f.issued + told_issued told
  issued_settled None w = issued_granted call ∙ ap (λ (t : Reply). f.issued + told_issued t) (sym w)
  issued_settled (Some x) w = sym (add-zero f.issued) ∙ ap (λ (t : Reply). f.issued + told_issued t) (sym w)

  source_granted : (c : Call) → (granted m f c place).source ≡ after (drawn_in c (done (issued_by f c) fr a)) f.source
  source_granted (start n) = refl
  source_granted (advance c) = refl
  source_granted (weigh q) = sym (after_none f.source)
  source_granted resample = refl
  source_granted (hold k) = sym (after_none f.source)
  source_granted (give_back stamp given) = sym (after_none f.source)
  source_granted finish = sym (after_none f.source)

  source_settled : (r : Option Refusal) → ToldBy r → (settle r (granted m f call place) f).source ≡ after (drawn_in call told) f.source
  source_settled None w = source_granted call ∙ ap (λ (t : Reply). after (drawn_in call t) f.source) (sym w)
  source_settled (Some x) w =
      sym (after_none f.source) ∙ ap (λ (n : ℕ). after n f.source) (sym (nothing_drawn call x)) ∙ ap (λ (t : Reply). after (drawn_in call t) f.source) (sym w)

  descends_settled : (q : Supply) (d : ℕ) → f.source ≡ after d q → (b : ℕ) → f.issued ≡ b → (gs : List Making) → (r : Option Refusal) → refusal m f call ≡ r → ToldBy r
      → AllByRecursion (Descends m q.to_come gs) (all_paths f)
      → AllByRecursion (Descends m q.to_come (record { call = call; count = told_issued told; first_serial = b; first_draw = d } ∷ gs)) (all_paths (settle r (granted m f call place) f))
  descends_settled q d drawn b count gs None e w h = descends_granted m q f s d drawn b count (told_issued told) gs call place e (ap told_issued w) h
  descends_settled q d drawn b count gs (Some x) e w h = all_more m q _ gs (all_paths f) h

  fair_settled : (r : Option Refusal) → refusal m f call ≡ r → ToldBy r → call ≡ resample → is_done told ≡ true → Fair f.weights (parents_now f)
  fair_settled None e w c t = (resamples m f s (ap (refusal m f) (sym c) ∙ e)).marked.every_run_of_neighbours_gets_its_share
  fair_settled (Some x) e w c t = absurd (false≢true (ap is_done (sym w) ∙ t))

-- Runs

module _ {S : Type 0} (m : Meaning S) (f₀ : Filter S) (s₀ : Sound f₀) where
  sound : (ts : List Turn) → Sound (reached m f₀ ts)
  sound [] = s₀
  sound (t ∷ ts) = step_sound S m (reached m f₀ ts) t.call (told_place t.told) (sound ts)

  balances : (ts : List Turn) → Told m f₀ ts → in_use f₀ ≡ 0 → in_use (reached m f₀ ts) + all_freed ts ≡ all_issued ts
  balances [] w u = omega arith
  balances (t ∷ ts) w u =
      let e = w.1.reply_is in
      omega (
        arith,
        balances ts w.0 u,
        step_balances S m (reached m f₀ ts) t.call (told_place t.told) (sound ts),
        ap told_issued e,
        ap told_freed e,
      )

  issued : (ts : List Turn) → Told m f₀ ts → f₀.issued ≡ 0 → (reached m f₀ ts).issued ≡ all_issued ts
  issued [] w u = u
  issued (t ∷ ts) w u =
      let f : Filter S = reached m f₀ ts in
      issued_settled m f (sound ts) t.call (told_place t.told) _ _ t.told (refusal m f t.call) w.1.reply_is
      ∙ ap (λ (n : ℕ). n + told_issued t.told) (issued ts w.0 u)

  left : (ts : List Turn) → Told m f₀ ts → (reached m f₀ ts).source ≡ after (all_drawn ts) f₀.source
  left [] w = sym (after_none f₀.source)
  left (t ∷ ts) w =
      let f : Filter S = reached m f₀ ts in
      source_settled m f (sound ts) t.call (told_place t.told) _ _ t.told (refusal m f t.call) w.1.reply_is
      ∙ ap (after (drawn_in t.call t.told)) (left ts w.0)
      ∙ after_after f₀.source (drawn_in t.call t.told) (all_drawn ts)

  within : (ts : List Turn) → Told m f₀ ts → AllByRecursion (Within (all_issued ts) (all_drawn ts)) (makings ts)
  within [] w = tt
  within (t ∷ ts) w =
      let f : Filter S = reached m f₀ ts in
      let l : told_issued t.told ≤ drawn_in t.call t.told = draws m f (sound ts) t.call (told_place t.told) _ _ t.told (refusal m f t.call) w.1.reply_is in (
        (omega arith, omega arith),
        within_more (all_issued ts) (all_drawn ts) (all_issued (t ∷ ts)) (all_drawn (t ∷ ts)) (omega arith) (omega arith) (makings ts) (within ts w.0),
      )

  apart : (ts : List Turn) → Told m f₀ ts → AllApart (makings ts)
  apart [] w = tt
  apart (t ∷ ts) w = apart_more (makings ts) (making t ts) (within ts w.0) (apart ts w.0)

  descends : (ts : List Turn) → Told m f₀ ts → f₀.issued ≡ 0 → AllByRecursion (Descends m f₀.source.to_come []) (all_paths f₀) → AllByRecursion (Descends m f₀.source.to_come (makings ts)) (all_paths (reached m f₀ ts))
  descends [] w u h = h
  descends (t ∷ ts) w u h =
      let f : Filter S = reached m f₀ ts in
      descends_settled m f (sound ts) t.call (told_place t.told) _ _ t.told f₀.source (all_drawn ts) (left ts w.0) (all_issued ts) (issued ts w.0 u) (makings ts) (refusal m f t.call) refl w.1.reply_is
      (descends ts w.0 u h)

  fair : (ts : List Turn) → Told m f₀ ts → AllFair m f₀ ts
  fair [] w = tt
  fair (t ∷ ts) w =
      let f : Filter S = reached m f₀ ts in
      (fair ts w.0, fair_settled m f (sound ts) t.call (told_place t.told) _ _ t.told (refusal m f t.call) refl w.1.reply_is)

none_used : (S : Type 0) (brought stamp : ℕ) (q : Supply) → in_use (fresh {S = S} brought stamp q) ≡ 0
unfolding in_use
none_used S brought stamp q = refl

pub run_sound : (S : Type 0) → EveryRunIsSound S
run_sound S m brought stamp q l ts = sound m (fresh brought stamp q) (fresh_sound brought stamp q l) ts

pub run_states : (S : Type 0) → EveryRunKeepsStates S
run_states S k m law brought stamp q l [] = tt
run_states S k m law brought stamp q l (t ∷ ts) =
    step_states S k m law (reached m (fresh brought stamp q) ts) t.call (told_place t.told) (run_sound S m brought stamp q l ts) (run_states S k m law brought stamp q l ts)

pub genealogy : (S : Type 0) → EveryRunHasItsGenealogy S
genealogy S m brought stamp q l ts w =
    let f₀ : Filter S = fresh brought stamp q in
    let s₀ : Sound f₀ = fresh_sound brought stamp q l in
    record {
      every_state_descends = descends m f₀ s₀ ts w refl tt;
      no_draw_serves_two_nodes = apart m f₀ s₀ ts w;
      nodes_in_use_are_issued_less_freed = balances m f₀ s₀ ts w (none_used S brought stamp q);
      serials_count_nodes_issued = issued m f₀ s₀ ts w refl;
      numbers_left_follow_those_drawn = left m f₀ s₀ ts w;
      every_run_of_neighbours_gets_its_share = fair m f₀ s₀ ts w;
    }
