-- A cloud that represents a filter shows its paths.
use Rattle.std.proofs.Common.{◌≡◌, ℕ, ◌<◌, true, List, [], ◌∷◌, length, get_or, Some, None, Option, sym, refl, ap, ◌∙◌, subst, arith}
use Rattle.std.proofs.ByRecursion.{All-weaker}
use Rattle.sources.specs.Supplies.{Supply}
use Rattle.filter.specs.Filters.{PathOf, Filter}
use Rattle.filter.specs.Uses.{all_paths, live}
use Rattle.filter.specs.Steps.{path}
use Rattle.cloud.specs.Links.{Link, links, states, link_at}
use Rattle.cloud.specs.Tracks.{Track, named}
use Rattle.cloud.specs.Representations.{View, Represents, Alike}
use Rattle.cloud.specs.Seen.{seen_at, OnNodes, Newest, SamePlace, Shows}
use Rattle.cloud.proofs.Trees.{named_used}
use Rattle.cloud.proofs.Naming.{particle_named, place_named}
use Rattle.cloud.proofs.Exactness.{parent_used}
use Rattle.cloud.proofs.Counting.{Tracked, serial_live, all_tracked, serial_in}
use Rattle.cloud.proofs.Seeing.{seen_used, seen_live}

module _ {S : Type 0} (node : ℕ → ℕ) (v : View S) (f : Filter S) (h : Represents node v f) where
  abbrev ls : List Link
  ls = links v.nodes

  -- the path is read off the links, from the node r
  abbrev Read : ℕ → PathOf S → Type 0
  Read r p = Track ls (states v.nodes) h.serial (Some r) p

  -- the serial of a path's newest pair leads back to its node
  newest : (r : ℕ) (p : PathOf S) → 0 < named v.tips v.holds r → Read r p → Newest node r p
  newest r [] w t = absurd (let z : ◌≡◌ {A = ℕ} 0 1 = cc in omega arith)
  newest r (x ∷ p) w (n, e, l, s, d, t) =
      let z : r ≡ n = cc in
      let u = named_used ls v.head v.free (named v.tips v.holds) h.serial f.issued r h.tree w in
      sym (h.inverse r u.0 u.1) ∙ ap (λ k. node (h.serial k)) z ∙ ap node s

  -- each pair's node shows its state, and as parent the node of the pair before it
  on_nodes : (r : ℕ) (p : PathOf S) → r < length ls → 0 < (link_at ls r).count → Read r p → OnNodes v.nodes node p
  on_nodes r [] l c t = absurd (let z : ◌≡◌ {A = ℕ} 0 1 = cc in omega arith)
  on_nodes r (x ∷ []) l c (n, e, ln, s, d, t) =
      let z : r ≡ n = cc in
      let b : node x.serial ≡ n = ap node (sym s) ∙ ap (λ k. node (h.serial k)) (sym z) ∙ h.inverse r l c ∙ z in
      ap (seen_at v.nodes) b ∙ seen_used v.nodes n x.state (subst (λ k. 0 < (link_at ls k).count) z c) d ∙ ap (λ o. Some (record { state = x.state; parent = o })) t
  on_nodes r (y ∷ x ∷ p) l c (n, e, ln, s, d, (m, e2, lm, s2, d2, t)) =
      let z : r ≡ n = cc in
      let b : node y.serial ≡ n = ap node (sym s) ∙ ap (λ k. node (h.serial k)) (sym z) ∙ h.inverse r l c ∙ z in
      let cn : 0 < (link_at ls n).count = subst (λ k. 0 < (link_at ls k).count) z c in
      let u = parent_used ls v.head v.free (named v.tips v.holds) h.serial f.issued h.tree n m ln cn e2 in
      let a : node x.serial ≡ m = ap node (sym s2) ∙ h.inverse m u.0 u.1 in (
        ap (seen_at v.nodes) b ∙ seen_used v.nodes n y.state cn d ∙ ap (λ o. Some (record { state = y.state; parent = o })) (e2 ∙ ap Some (sym a)),
        on_nodes m (x ∷ p) u.0 u.1 (m, refl, lm, s2, d2, t),
      )

  -- a place is open in both, at the newest node of the path
  same_place : (o : Option ℕ) (q : Option (PathOf S)) → ((r : ℕ) → o ≡ Some r → 0 < named v.tips v.holds r) → Alike ls (states v.nodes) h.serial o q → SamePlace node o q
  same_place None None w t = tt
  same_place None (Some p) w t = absurd t
  same_place (Some n) None w t = absurd t
  same_place (Some n) (Some p) w t = newest n p (w n refl) t

  alive : (a : ℕ) → live a f ≡ true → (n : ℕ) × (n < length ls) × (0 < (link_at ls n).count) × (h.serial n ≡ a)
  alive = serial_live ls (states v.nodes) v.head v.free (named v.tips v.holds) h.serial f.issued h.tree (all_paths f) (all_tracked node v f h)

  shown : (q : Supply) → f.source ≡ q → Shows node v q f
  unfolding Tracked
  shown q e = record {
    every_path_is_on_nodes = All-weaker _ (OnNodes v.nodes node) (λ p (r, w, t). let u = named_used ls v.head v.free (named v.tips v.holds) h.serial f.issued r h.tree w in on_nodes r p u.0 u.1 t) (all_paths f) (all_tracked node v f h);
    each_serial_has_its_own_node = λ a b la lb z.
        let x = alive a la in
        let y = alive b lb in
        let ea : node a ≡ x.0 = ap node (sym x.3) ∙ h.inverse x.0 x.1 x.2 in
        let eb : node b ≡ y.0 = ap node (sym y.3) ∙ h.inverse y.0 y.1 y.2 in
        sym x.3 ∙ ap h.serial (sym ea ∙ z ∙ eb) ∙ y.3;
    no_other_node_is_in_use = λ n x z. let u = seen_live v.nodes n x z in (h.serial n, serial_in node v f h n u.0 u.1, h.inverse n u.0 u.1);
    as_many_particles = h.number;
    particles = λ i l. newest (get_or v.tips i 0) (path f i) (particle_named v.tips v.holds i l) (h.paths_are i l);
    sixteen_places = h.sixteen;
    places = λ j l. same_place (get_or v.holds j None) (get_or f.places j None) (λ r z. place_named v.tips v.holds j r (omega (arith, h.sixteen)) z) (h.places_are j l);
    phase = h.phase;
    round = h.round;
    stamp = h.stamp;
    room = h.room;
    weights = h.weights;
    source = e;
  }

pub shows : {S : Type 0} (node : ℕ → ℕ) (v : View S) (q : Supply) (f : Filter S) → Represents node v f → f.source ≡ q → Shows node v q f
shows node v q f h e = shown node v f h q e
