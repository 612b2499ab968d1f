-- Every call leaves a sound filter sound, and the nodes in use balance. Assumes nothing.
use Rattle.std.proofs.Common.{◌≡◌, ℕ, ◌+◌, ◌-◌, ◌<◌, ◌≤◌, List, [], ◌++◌, map, length, set, Some, None, Option, sym, refl, ap, ◌∙◌, arith, length-set}
use lib.ListN.{length-map}
use Rattle.std.specs.List.{range_with_len, AllByRecursion}
use Rattle.std.proofs.lemmas.List.FromFn.{length-map-range_with_len}
use Rattle.std.proofs.ByRecursion.{All-append, All-get_or, All-map, All-weaker}
use Rattle.refusals.specs.declared.Refusal.{Refusal}
use Rattle.resampling.specs.Calls.{in_range}
use Rattle.sources.specs.Supplies.{Supply, Lawful}
use Rattle.models.specs.Meanings.{Meaning}
use Rattle.filter.specs.Filters.{PathOf, Filter, fresh}
use Rattle.filter.specs.Uses.{opened, all_paths, serials, member, in_use}
use Rattle.filter.specs.Calls.{Call, start, advance, weigh, resample, hold, give_back, finish}
use Rattle.filter.specs.Refusals.{refusal}
use Rattle.filter.specs.Steps.{born, births, all_longer, weight, path, parents_now, granted, settle}
use Rattle.filter.specs.Replies.{issued_by, freed, answer, replied, told_issued, told_freed}
use Rattle.filter.specs.Sound.{Falling, Agree, AllAgree, Sound}
use Rattle.filter.specs.Theorems.{EveryStepKeepsSoundness, EveryStepBalances}
use Rattle.filter.proofs.Alls.{all_split, all_counting, all_opened, all_closed}
use Rattle.filter.proofs.Grants.{level_not_empty, level_not_weighed, empty_not_weighed, weighed_not_empty, lawful_after, starts, advances, weighs, holds as held, resamples, count_parents, all_resampled}
use Rattle.filter.proofs.Serials.{Low, low_paths, low_serials, low_more, Among, among, in_use_among, in_use_grown, born_low, born_old, born_new, Begun, longer_low, longer_old, longer_new, longer_fall, longer_begun, longer_even, length-longer}
use Rattle.filter.proofs.Agreements.{agree_beside, agree_among, births_agree, births_agree_old, all_longer_agree, all_longer_agree_old}

module _ {S : Type 0} (m : Meaning S) (f : Filter S) (s : Sound f) where
  abbrev holds : List (PathOf S)
  holds = opened f.places

  lows : AllByRecursion (Low f.issued) f.paths × AllByRecursion (Low f.issued) holds
  lows = all_split (Low f.issued) f.paths holds (low_paths f.issued (all_paths f) s.serials_below_issued)

  falls : AllByRecursion Falling f.paths × AllByRecursion Falling holds
  falls = all_split Falling f.paths holds s.serials_fall

  begun : AllByRecursion Begun f.paths × AllByRecursion Begun holds
  begun = all_split Begun f.paths holds s.paths_begun

  -- particles' paths and held ones agree, each with both
  agreements : (AllAgree f.paths × AllByRecursion (λ p. AllByRecursion (Agree p) holds) f.paths) × (AllByRecursion (λ p. AllByRecursion (Agree p) f.paths) holds × AllAgree holds)
  agreements =
      let r = all_split (λ p. AllByRecursion (Agree p) (all_paths f)) f.paths holds s.one_serial_one_node in
      ((left f.paths r.0, right f.paths r.0), (left holds r.1, right holds r.1))
    where
      left : (ps : List (PathOf S)) → AllByRecursion (λ p. AllByRecursion (Agree p) (all_paths f)) ps → AllByRecursion (λ p. AllByRecursion (Agree p) f.paths) ps
      left ps h = All-weaker (λ p. AllByRecursion (Agree p) (all_paths f)) (λ p. AllByRecursion (Agree p) f.paths) (λ p k. (all_split (Agree p) f.paths holds k).0) ps h

      right : (ps : List (PathOf S)) → AllByRecursion (λ p. AllByRecursion (Agree p) (all_paths f)) ps → AllByRecursion (λ p. AllByRecursion (Agree p) holds) ps
      right ps h = All-weaker (λ p. AllByRecursion (Agree p) (all_paths f)) (λ p. AllByRecursion (Agree p) holds) (λ p k. (all_split (Agree p) f.paths holds k).1) ps h

  -- the old paths are among those of the filter that these calls leave
  pub weigh_among : (q place : ℕ) → Among f (granted m f (weigh q) place)
  weigh_among q place P a b = All-append P f.paths holds a b

  pub resample_among : (place : ℕ) → refusal m f resample ≡ None → Among f (granted m f resample place)
  resample_among place e P a b = All-append P (map (path f) (parents_now f)) holds (all_resampled m f P (resamples m f s e) a) b

  pub hold_among : (k place : ℕ) → refusal m f (hold k) ≡ None → Among f (granted m f (hold k) place)
  hold_among k place e P a b =
      All-append P f.paths (opened (set f.places place (Some (path f k)))) a
      (all_opened P f.places place (path f k) (All-get_or P f.paths k [] (held m f k e).inside a) b)

  pub give_back_among : (stamp given place : ℕ) → Among f (granted m f (give_back stamp given) place)
  give_back_among stamp given place P a b = All-append P f.paths (opened (set f.places given None)) a (all_closed P f.places given b)

  pub finish_among : (place : ℕ) → Among f (granted m f finish place)
  finish_among place P a b = b

  -- the serials after a start and after an advance
  start_low : (n place : ℕ) → AllByRecursion (Low (f.issued + n)) (all_paths (granted m f (start n) place))
  start_low n place = All-append (Low (f.issued + n)) (births m f n) holds (born_low m f n) (low_more f.issued (f.issued + n) (omega arith) holds lows.1)

  advance_low : (c place : ℕ) → AllByRecursion (Low (f.issued + length f.paths)) (all_paths (granted m f (advance c) place))
  advance_low c place =
      let b : ℕ = f.issued + (0 + length f.paths) in
      All-append (Low (f.issued + length f.paths)) (all_longer m f c 0 f.paths) holds
      (low_more b (f.issued + length f.paths) (omega arith) (all_longer m f c 0 f.paths) (longer_low m f c 0 f.paths lows.0))
      (low_more f.issued (f.issued + length f.paths) (omega arith) holds lows.1)

  start_uses : (n place : ℕ) → refusal m f (start n) ≡ None → in_use (granted m f (start n) place) ≡ in_use f + n
  start_uses n place e =
      let nobody : f.paths ≡ [] = s.nobody_while_empty (starts m f n e).empty in
      in_use_grown f (granted m f (start n) place) n s.serials_below_issued (low_serials (f.issued + n) (all_paths (granted m f (start n) place)) (start_low n place))
      (λ x l. born_old m f x holds 0 n (omega arith) ∙ ap (λ ps. member x (serials (ps ++ holds))) (sym nobody))
      (λ x l u. born_new m f x holds 0 n (omega arith) (omega arith))

  advance_uses : (c place : ℕ) → in_use (granted m f (advance c) place) ≡ in_use f + length f.paths
  advance_uses c place =
      let n : ℕ = length f.paths in
      in_use_grown f (granted m f (advance c) place) n s.serials_below_issued (low_serials (f.issued + n) (all_paths (granted m f (advance c) place)) (advance_low c place))
      (λ x l. longer_old m f c x holds 0 f.paths begun.0 (omega arith))
      (λ x l u. longer_new m f c x holds 0 f.paths begun.0 (omega arith) (omega arith))

  -- what a granted call does to the number of nodes in use
  pub balance : (call : Call) (place : ℕ) → refusal m f call ≡ None → in_use (granted m f call place) + freed f (granted m f call place) ≡ in_use f + issued_by f call
  balance (start n) place e = let u : in_use (granted m f (start n) place) ≡ in_use f + n = start_uses n place e in omega arith
  balance (advance c) place e = let u : in_use (granted m f (advance c) place) ≡ in_use f + length f.paths = advance_uses c place in omega arith
  balance (weigh q) place e = omega (arith, in_use_among f (granted m f (weigh q) place) s.serials_below_issued (weigh_among q place))
  balance resample place e = omega (arith, in_use_among f (granted m f resample place) s.serials_below_issued (resample_among place e))
  balance (hold k) place e = omega (arith, in_use_among f (granted m f (hold k) place) s.serials_below_issued (hold_among k place e))
  balance (give_back stamp given) place e = omega (arith, in_use_among f (granted m f (give_back stamp given) place) s.serials_below_issued (give_back_among stamp given place))
  balance finish place e = omega (arith, in_use_among f (granted m f finish place) s.serials_below_issued (finish_among place))

  -- what the filters share that have no new path
  module _ (f' : Filter S) (a : Among f f') where
    fall_among : AllByRecursion Falling (all_paths f')
    fall_among = among Falling f f' a s.serials_fall

    below_among : AllByRecursion (λ x. x < f.issued) (serials (all_paths f'))
    below_among = low_serials f.issued (all_paths f') (among (Low f.issued) f f' a (low_paths f.issued (all_paths f) s.serials_below_issued))

    agreeing_among : AllAgree (all_paths f')
    agreeing_among = agree_among f f' a s.one_serial_one_node

    begun_among : AllByRecursion Begun (all_paths f')
    begun_among = among Begun f f' a s.paths_begun

    within_among : in_use f' ≤ f.room
    within_among = omega (arith, in_use_among f f' s.serials_below_issued a, s.in_use_within_room)

  pub sound_granted : (call : Call) (place : ℕ) → refusal m f call ≡ None → Sound (granted m f call place)
  sound_granted (start n) place e =
      let g = starts m f n e in
      let f' : Filter S = granted m f (start n) place in
      let u : in_use f' ≡ in_use f + n = start_uses n place e in
      let r : n ≤ f.room - in_use f = g.roomy in
      let w : in_use f ≤ f.room = s.in_use_within_room in
      record {
        supply_lawful = lawful_after f.source n s.supply_lawful g.supplied;
        serials_fall = All-append Falling (births m f n) holds (All-map Falling (born m f) (range_with_len 0 n) (all_counting (λ k. Falling (born m f k)) 0 n (λ i l u. tt))) falls.1;
        serials_below_issued = low_serials (f.issued + n) (all_paths f') (start_low n place);
        one_serial_one_node = agree_beside (births m f n) holds (births_agree m f n) (births_agree_old m f n holds lows.1) agreements.1.1;
        paths_begun = All-append Begun (births m f n) holds (All-map Begun (born m f) (range_with_len 0 n) (all_counting (λ k. Begun (born m f k)) 0 n (λ i l u. omega arith))) begun.1;
        paths_as_long_as_round = All-map (λ p. length p ≡ 0 + 1) (born m f) (range_with_len 0 n) (all_counting (λ k. length (born m f k) ≡ 0 + 1) 0 n (λ i l u. refl));
        sixteen_places = s.sixteen_places;
        in_use_within_room = omega arith;
        nobody_while_empty = λ h. absurd (level_not_empty h);
        particles_in_range = λ h. ap in_range (length-map-range_with_len (born m f) 0 n) ∙ g.ranged;
        each_weighed = λ h. absurd (level_not_weighed h);
      }
  sound_granted (advance c) place e =
      let g = advances m f c e in
      let n : ℕ = length f.paths in
      let f' : Filter S = granted m f (advance c) place in
      let u : in_use f' ≡ in_use f + n = advance_uses c place in
      let r : n ≤ f.room - in_use f = g.roomy in
      let w : in_use f ≤ f.room = s.in_use_within_room in
      record {
        supply_lawful = lawful_after f.source n s.supply_lawful g.supplied;
        serials_fall = All-append Falling (all_longer m f c 0 f.paths) holds (longer_fall m f c 0 f.paths falls.0 lows.0) falls.1;
        serials_below_issued = low_serials (f.issued + n) (all_paths f') (advance_low c place);
        one_serial_one_node =
            agree_beside (all_longer m f c 0 f.paths) holds (all_longer_agree m f c f.paths lows.0 agreements.0.0)
            (all_longer_agree_old m f c 0 f.paths holds lows.1 agreements.0.1) agreements.1.1;
        paths_begun = All-append Begun (all_longer m f c 0 f.paths) holds (longer_begun m f c 0 f.paths begun.0) begun.1;
        paths_as_long_as_round = longer_even m f c 0 f.round f.paths s.paths_as_long_as_round;
        sixteen_places = s.sixteen_places;
        in_use_within_room = omega arith;
        nobody_while_empty = λ h. absurd (level_not_empty h);
        particles_in_range = λ h. ap in_range (length-longer m f c 0 f.paths) ∙ s.particles_in_range g.living;
        each_weighed = λ h. absurd (level_not_weighed h);
      }
  sound_granted (weigh q) place e =
      let f' : Filter S = granted m f (weigh q) place in
      let a : Among f f' = weigh_among q place in
      record {
        supply_lawful = s.supply_lawful;
        serials_fall = fall_among f' a;
        serials_below_issued = below_among f' a;
        one_serial_one_node = agreeing_among f' a;
        paths_begun = begun_among f' a;
        paths_as_long_as_round = s.paths_as_long_as_round;
        sixteen_places = s.sixteen_places;
        in_use_within_room = within_among f' a;
        nobody_while_empty = λ h. absurd (weighed_not_empty h);
        particles_in_range = λ h. s.particles_in_range (weighs m f q e).living;
        each_weighed = λ h. length-map f.paths (weight m q);
      }
  sound_granted resample place e =
      let g = resamples m f s e in
      let f' : Filter S = granted m f resample place in
      let a : Among f f' = resample_among place e in
      record {
        supply_lawful = lawful_after f.source 1 s.supply_lawful g.supplied;
        serials_fall = fall_among f' a;
        serials_below_issued = below_among f' a;
        one_serial_one_node = agreeing_among f' a;
        paths_begun = begun_among f' a;
        paths_as_long_as_round = all_resampled m f (λ p. length p ≡ f.round + 1) g s.paths_as_long_as_round;
        sixteen_places = s.sixteen_places;
        in_use_within_room = within_among f' a;
        nobody_while_empty = λ h. absurd (level_not_empty h);
        particles_in_range = λ h. ap in_range (length-map (parents_now f) (path f) ∙ count_parents m f g) ∙ s.particles_in_range g.living;
        each_weighed = λ h. absurd (level_not_weighed h);
      }
  sound_granted (hold k) place e =
      let f' : Filter S = granted m f (hold k) place in
      let a : Among f f' = hold_among k place e in
      record {
        supply_lawful = s.supply_lawful;
        serials_fall = fall_among f' a;
        serials_below_issued = below_among f' a;
        one_serial_one_node = agreeing_among f' a;
        paths_begun = begun_among f' a;
        paths_as_long_as_round = s.paths_as_long_as_round;
        sixteen_places = length-set f.places place (Some (path f k)) ∙ s.sixteen_places;
        in_use_within_room = within_among f' a;
        nobody_while_empty = s.nobody_while_empty;
        particles_in_range = s.particles_in_range;
        each_weighed = s.each_weighed;
      }
  sound_granted (give_back stamp given) place e =
      let f' : Filter S = granted m f (give_back stamp given) place in
      let a : Among f f' = give_back_among stamp given place in
      record {
        supply_lawful = s.supply_lawful;
        serials_fall = fall_among f' a;
        serials_below_issued = below_among f' a;
        one_serial_one_node = agreeing_among f' a;
        paths_begun = begun_among f' a;
        paths_as_long_as_round = s.paths_as_long_as_round;
        sixteen_places = length-set f.places given None ∙ s.sixteen_places;
        in_use_within_room = within_among f' a;
        nobody_while_empty = s.nobody_while_empty;
        particles_in_range = s.particles_in_range;
        each_weighed = s.each_weighed;
      }
  sound_granted finish place e =
      let f' : Filter S = granted m f finish place in
      let a : Among f f' = finish_among place in
      record {
        supply_lawful = s.supply_lawful;
        serials_fall = fall_among f' a;
        serials_below_issued = below_among f' a;
        one_serial_one_node = agreeing_among f' a;
        paths_begun = begun_among f' a;
        paths_as_long_as_round = tt;
        sixteen_places = s.sixteen_places;
        in_use_within_room = within_among f' a;
        nobody_while_empty = λ h. refl;
        particles_in_range = λ h. absurd (h refl);
        each_weighed = λ h. absurd (empty_not_weighed h);
      }

  sound_settled : (call : Call) (place : ℕ) (r : Option Refusal) → refusal m f call ≡ r → Sound (settle r (granted m f call place) f)
  sound_settled call place None e = sound_granted call place e
  sound_settled call place (Some x) e = s

  balance_settled : (call : Call) (place : ℕ) (r : Option Refusal) → refusal m f call ≡ r
      → in_use (settle r (granted m f call place) f) + told_freed (replied r (issued_by f call) (freed f (granted m f call place)) (answer m f call place))
      ≡ in_use f + told_issued (replied r (issued_by f call) (freed f (granted m f call place)) (answer m f call place))
  balance_settled call place None e = balance call place e
  balance_settled call place (Some x) e = refl

pub step_sound : (S : Type 0) → EveryStepKeepsSoundness S
step_sound S m f call place s = sound_settled m f s call place (refusal m f call) refl

pub step_balances : (S : Type 0) → EveryStepBalances S
step_balances S m f call place s = balance_settled m f s call place (refusal m f call) refl

pub fresh_sound : {S : Type 0} (brought stamp : ℕ) (q : Supply) → Lawful q → Sound (fresh {S = S} brought stamp q)
unfolding in_use
fresh_sound brought stamp q l = record {
  supply_lawful = l;
  serials_fall = tt;
  serials_below_issued = tt;
  one_serial_one_node = tt;
  paths_begun = tt;
  paths_as_long_as_round = tt;
  sixteen_places = refl;
  in_use_within_room = omega arith;
  nobody_while_empty = λ h. refl;
  particles_in_range = λ h. absurd (h refl);
  each_weighed = λ h. refl;
}
