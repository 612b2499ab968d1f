-- Every run that has led to a cloud has its ancestry.
use Rattle.std.proofs.Common.{◌≡◌, ℕ, ◌+◌, true, false, eqb, List, [], ◌∷◌, Some, None, sym, refl, ap, ◌∙◌, subst, inl, inr, arith}
use Rattle.std.specs.List.{AllByRecursion}
use Rattle.std.proofs.lemmas.Bool.{false≢true, eqb-true, or_cases}
use Rattle.sources.specs.Supplies.{Supply}
use Rattle.models.specs.Meanings.{Meaning}
use Rattle.filter.specs.Filters.{Pair, PathOf, Filter, fresh}
use Rattle.filter.specs.Uses.{all_paths, serials_on, serials, member, live}
use Rattle.filter.specs.Runs.{reached}
use Rattle.filter.specs.Makings.{Making, makings}
use Rattle.filter.specs.Descents.{OneOf, IsBirth, IsMove, Descends}
use Rattle.filter.specs.Genealogies.{Genealogy}
use Rattle.filter.proofs.Alls.{all_both}
use Rattle.filter.proofs.Counts.{member_append}
use Rattle.filter.proofs.Genealogies.{genealogy}
use Rattle.cloud.specs.declared.node.Node.{Node}
use Rattle.cloud.specs.Representations.{Represents}
use Rattle.cloud.specs.Seen.{Seen, seen_at, OnNodes, Shows}
use Rattle.cloud.specs.Ancestry.{Came, MadeIn}
use Rattle.cloud.specs.Promises.{EveryRunHasItsAncestry}
use Rattle.cloud.proofs.Links.{length-links}
use Rattle.cloud.proofs.Counting.{in_use_represented}
use Rattle.cloud.proofs.Seeing.{seen_count}
use Rattle.cloud.proofs.Showing.{shows}

-- the pair with a serial, and what holds of its path from there back
module _ {S : Type 0} (P : PathOf S → Type 0) (back : (y x : Pair S) (p : PathOf S) → P (y ∷ x ∷ p) → P (x ∷ p)) (s : ℕ) where
  abbrev Found : Type 0
  Found = (x : Pair S) × (p : PathOf S) × (x.serial ≡ s) × P (x ∷ p)

  find_on : (p : PathOf S) → P p → member s (serials_on p) ≡ true → Found
  find_on [] h e = absurd (false≢true e)
  find_on (x ∷ []) h e = elim (or_cases (eqb s x.serial) false e) [ inl k ↦ (x, [], sym (eqb-true s x.serial k), h) | inr k ↦ absurd (false≢true k) ]
  find_on (y ∷ x ∷ p) h e =
      elim (or_cases (eqb s y.serial) (member s (serials_on (x ∷ p))) e)
      [ inl k ↦ (y, x ∷ p, sym (eqb-true s y.serial k), h) | inr k ↦ find_on (x ∷ p) (back y x p h) k ]

  find : (ps : List (PathOf S)) → AllByRecursion P ps → member s (serials ps) ≡ true → Found
  find [] h e = absurd (false≢true e)
  find (p ∷ ps) h e =
      elim (or_cases (member s (serials_on p)) (member s (serials ps)) (sym (member_append s (serials_on p) (serials ps)) ∙ e))
      [ inl k ↦ find_on p h.0 k | inr k ↦ find ps h.1 k ]

one_of_map : {A : Type 0} (P Q : A → Type 0) → ((x : A) → P x → Q x) → (xs : List A) → OneOf P xs → OneOf Q xs
one_of_map P Q k [] h = h
one_of_map P Q k (x ∷ xs) (inl h) = inl (k x h)
one_of_map P Q k (x ∷ xs) (inr h) = inr (one_of_map P Q k xs h)

-- a node that is seen was made where the pair with its serial was made
module _ {S : Type 0} (m : Meaning S) (q₀ : Supply) (gs : List Making) (xs : List (Node S)) (node : ℕ → ℕ) (f : Filter S) (n : ℕ) (x : Seen S) (z : seen_at xs n ≡ Some x) where
  made : (y : Pair S) (p : PathOf S) → live y.serial f ≡ true → node y.serial ≡ n → Descends m q₀.to_come gs (y ∷ p) → OnNodes xs node (y ∷ p) → OneOf (MadeIn m q₀ xs node f n x) gs
  made y [] l e d o =
      let w : x ≡ record { state = y.state; parent = None } = cc in
      one_of_map (IsBirth m q₀.to_come y) (MadeIn m q₀ xs node f n x)
      (λ g b. record {
        index = b.index;
        made = b.made;
        serial_in_use = subst (λ k. live k f ≡ true) b.serial_is l;
        node_is = subst (λ k. node k ≡ n) b.serial_is e;
        came = subst (λ c. Came m xs (q₀.to_come (g.first_draw + b.index)) c x) (sym b.by_start) (ap (λ k. k.parent) w, ap (λ k. k.state) w ∙ b.state_is);
      })
      gs d
  made y (u ∷ p) l e d o =
      let w : x ≡ record { state = y.state; parent = Some (node u.serial) } = cc o.0 in
      let r = seen_before u p o.1 in
      one_of_map (IsMove m q₀.to_come u y) (MadeIn m q₀ xs node f n x)
      (λ g b. record {
        index = b.index;
        made = b.made;
        serial_in_use = subst (λ k. live k f ≡ true) b.serial_is l;
        node_is = subst (λ k. node k ≡ n) b.serial_is e;
        came = subst (λ c. Came m xs (q₀.to_come (g.first_draw + b.index)) c x) (sym b.by_advance)
            (node u.serial, r.0, ap (λ k. k.parent) w, r.1, ap (λ k. k.state) w ∙ b.state_is ∙ ap (λ k. m.move k b.command (q₀.to_come (g.first_draw + b.index))) (sym r.2));
      })
      gs d.0
    where
      seen_before : (u : Pair S) (p : PathOf S) → OnNodes xs node (u ∷ p) → (k : Seen S) × (seen_at xs (node u.serial) ≡ Some k) × (k.state ≡ u.state)
      seen_before u [] o = (record { state = u.state; parent = None }, o, refl)
      seen_before u (v ∷ p) o = (record { state = u.state; parent = Some (node v.serial) }, o.0, refl)

pub run_ancestry : (S : Type 0) → EveryRunHasItsAncestry S
run_ancestry S m brought stamp q₀ lawful ts node v q led =
    let f₀ : Filter S = fresh brought stamp q₀ in
    let f : Filter S = reached m f₀ ts in
    let h : Represents node v f = led.represents in
    let sh : Shows node v q f = shows node v q f h led.source in
    let g : Genealogy m f₀ ts = genealogy S m brought stamp q₀ lawful ts led.told in
    record {
      nodes_in_use_are_those_on_paths = sh;
      nodes_in_use_are_issued_less_freed = omega (arith, seen_count v.nodes, h.tree.whole, in_use_represented node v f h, length-links v.nodes, g.nodes_in_use_are_issued_less_freed);
      every_node_in_use_was_made = λ n x z.
          let r = sh.no_other_node_is_in_use n x z in
          let k = find (λ p. Descends m q₀.to_come (makings ts) p × OnNodes v.nodes node p) (λ y u p t. (t.0.1, t.1.1)) r.0 (all_paths f)
          (all_both (Descends m q₀.to_come (makings ts)) (OnNodes v.nodes node) (all_paths f) g.every_state_descends sh.every_path_is_on_nodes) r.1 in
          made m q₀ (makings ts) v.nodes node f n x z k.0 k.1 (ap (λ s. live s f) k.2 ∙ r.1) (ap node k.2 ∙ r.2) k.3.0 k.3.1;
      no_draw_serves_two_nodes = g.no_draw_serves_two_nodes;
      numbers_left_follow_those_drawn = sym led.source ∙ g.numbers_left_follow_those_drawn;
      every_run_of_neighbours_got_its_share = g.every_run_of_neighbours_gets_its_share;
    }
