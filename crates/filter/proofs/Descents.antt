-- Every state on a path descends, call by call. Assumes nothing.
use Rattle.std.proofs.Common.{◌≡◌, ℕ, ◌+◌, ◌≤◌, List, [], ◌∷◌, length, None, sym, refl, ap, ◌∙◌, inl, inr, add_comm, arith}
use Rattle.std.specs.List.{range_with_len, AllByRecursion}
use Rattle.std.proofs.ByRecursion.{All-append, All-map, All-weaker}
use Rattle.sources.specs.Supplies.{Supply, after}
use Rattle.models.specs.Meanings.{Meaning}
use Rattle.filter.specs.Filters.{PathOf, Filter}
use Rattle.filter.specs.Uses.{opened, all_paths}
use Rattle.filter.specs.Calls.{Call, start, advance, weigh, resample, hold, give_back, finish}
use Rattle.filter.specs.Refusals.{refusal}
use Rattle.filter.specs.Steps.{born, births, all_longer, granted}
use Rattle.filter.specs.Replies.{issued_by}
use Rattle.filter.specs.Sound.{Sound}
use Rattle.filter.specs.Makings.{Making}
use Rattle.filter.specs.Descents.{Descends}
use Rattle.filter.proofs.Alls.{all_split, all_counting}
use Rattle.filter.proofs.Serials.{among}
use Rattle.filter.proofs.Sounds.{weigh_among, resample_among, hold_among, give_back_among, finish_among}

module _ {S : Type 0} (m : Meaning S) (q : Supply) where
  -- a longer run serves as well
  pub descends_more : (g : Making) (gs : List Making) (p : PathOf S) → Descends m q.to_come gs p → Descends m q.to_come (g ∷ gs) p
  descends_more g gs [] h = h
  descends_more g gs (x ∷ []) h = inr h
  descends_more g gs (y ∷ x ∷ p) h = (inr h.0, descends_more g gs (x ∷ p) h.1)

  pub all_more : (g : Making) (gs : List Making) (ps : List (PathOf S)) → AllByRecursion (Descends m q.to_come gs) ps → AllByRecursion (Descends m q.to_come (g ∷ gs)) ps
  all_more g gs ps h = All-weaker (Descends m q.to_come gs) (Descends m q.to_come (g ∷ gs)) (descends_more g gs) ps h

  module _ (f : Filter S) (s : Sound f) (d : ℕ) (drawn : f.source ≡ after d q) (b : ℕ) (count : f.issued ≡ b) (i : ℕ) (gs : List Making) where
    -- what the call makes
    abbrev made : Call → Making
    made call = record { call = call; count = i; first_serial = b; first_draw = d }

    number : (k : ℕ) → f.source.to_come k ≡ q.to_come (d + k)
    number k = ap (λ (z : Supply). z.to_come k) drawn ∙ ap q.to_come (add_comm k d)

    born_descend : (n : ℕ) → i ≡ n → AllByRecursion (Descends m q.to_come (made (start n) ∷ gs)) (births m f n)
    born_descend n e =
        All-map (Descends m q.to_come (made (start n) ∷ gs)) (born m f) (range_with_len 0 n)
        (all_counting (λ k. Descends m q.to_come (made (start n) ∷ gs) (born m f k)) 0 n (λ k l u. inl (record {
          index = k;
          made = omega arith;
          by_start = ap start (sym e);
          serial_is = ap (λ x. x + k) count;
          state_is = ap m.birth (number k);
        })))

    longer_descend : (c k : ℕ) (ps : List (PathOf S)) → k + length ps ≤ i → AllByRecursion (Descends m q.to_come gs) ps → AllByRecursion (Descends m q.to_come (made (advance c) ∷ gs)) (all_longer m f c k ps)
    longer_descend c k [] l h = tt
    longer_descend c k ([] ∷ ps) l h = absurd h.0
    longer_descend c k ((x ∷ p) ∷ ps) l h = (
      (
        inl (record {
          index = k;
          made = omega arith;
          command = c;
          by_advance = refl;
          serial_is = ap (λ z. z + k) count;
          state_is = ap (λ r. m.move x.state c r) (number k);
        }),
        descends_more (made (advance c)) gs (x ∷ p) h.0,
      ),
      longer_descend c (k + 1) ps (omega arith) h.1,
    )

    pub descends_granted : (call : Call) (place : ℕ) → refusal m f call ≡ None → i ≡ issued_by f call → AllByRecursion (Descends m q.to_come gs) (all_paths f)
        → AllByRecursion (Descends m q.to_come (made call ∷ gs)) (all_paths (granted m f call place))
    descends_granted (start n) place e c h =
        All-append (Descends m q.to_come (made (start n) ∷ gs)) (births m f n) (opened f.places) (born_descend n c)
        (all_more (made (start n)) gs (opened f.places) (all_split (Descends m q.to_come gs) f.paths (opened f.places) h).1)
    descends_granted (advance k) place e c h =
        let r = all_split (Descends m q.to_come gs) f.paths (opened f.places) h in
        All-append (Descends m q.to_come (made (advance k) ∷ gs)) (all_longer m f k 0 f.paths) (opened f.places)
        (longer_descend k 0 f.paths (omega arith) r.0)
        (all_more (made (advance k)) gs (opened f.places) r.1)
    descends_granted (weigh z) place e c h = all_more (made (weigh z)) gs _ (among (Descends m q.to_come gs) f (granted m f (weigh z) place) (weigh_among m f s z place) h)
    descends_granted resample place e c h = all_more (made resample) gs _ (among (Descends m q.to_come gs) f (granted m f resample place) (resample_among m f s place e) h)
    descends_granted (hold k) place e c h = all_more (made (hold k)) gs _ (among (Descends m q.to_come gs) f (granted m f (hold k) place) (hold_among m f s k place e) h)
    descends_granted (give_back stamp given) place e c h = all_more (made (give_back stamp given)) gs _ (among (Descends m q.to_come gs) f (granted m f (give_back stamp given) place) (give_back_among m f s stamp given place) h)
    descends_granted finish place e c h = all_more (made finish) gs _ (among (Descends m q.to_come gs) f (granted m f finish place) (finish_among m f s place) h)
