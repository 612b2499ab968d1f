-- Calls that issue no node: what stays of the paths, and the numbers of nodes.
use Rattle.std.proofs.Common.{◌≡◌, ℕ, ◌+◌, ◌<◌, true, length, Some, sym, refl, ap, ◌∙◌, subst, arith}
use Rattle.std.proofs.lemmas.List.{length-map}
use Rattle.filter.specs.declared.phase.Phase.{Phase}
use Rattle.filter.specs.declared.phase.Phase.TheVariants.{Empty, Level, Weighed}
use Rattle.filter.specs.Filters.{PathOf, Filter}
use Rattle.filter.specs.Uses.{free}
use Rattle.filter.specs.Refusals.{is_living}
use Rattle.filter.specs.Replies.{freed}
use Rattle.cloud.specs.declared.node.Node.{Node}
use Rattle.cloud.specs.Links.{links, states, Keeps}
use Rattle.cloud.specs.Trees.{Tree}
use Rattle.cloud.specs.Tracks.{Track, named}
use Rattle.cloud.specs.Representations.{View, Represents}
use Rattle.cloud.proofs.Links.{length-links}
use Rattle.cloud.proofs.Tracking.{kept_stays}
use Rattle.cloud.proofs.Counting.{in_use_represented}

pub living : (p : Phase) → (p ≡ Empty → ⊥) → is_living p ≡ true
living Empty h = absurd (h refl)
living Level h = refl
living Weighed h = refl

-- how many nodes are freed, by how many are free
pub freed_by : {S : Type 0} (node node' : ℕ → ℕ) (v v' : View S) (f f' : Filter S) (d : ℕ) → Represents node v f → Represents node' v' f' → length v'.nodes ≡ length v.nodes → v'.free ≡ v.free + d → d ≡ freed f f'
freed_by node node' v v' f f' d h h' size e =
    let a = in_use_represented node v f h in
    let b = in_use_represented node' v' f' h' in
    omega arith

-- nothing new is in use, and the states stay
module _ {S : Type 0} (v v' : View S) (kept : Keeps v.nodes v'.nodes) where
  pub same_nodes : length v'.nodes ≡ length v.nodes
  same_nodes = sym (length-map v'.nodes (λ (x : Node S). x.state)) ∙ ap length kept.same_states ∙ length-map v.nodes (λ (x : Node S). x.state)

  pub same_links : length (links v'.nodes) ≡ length (links v.nodes)
  same_links = length-links v'.nodes ∙ same_nodes ∙ sym (length-links v.nodes)

  pub track_on : (serial : ℕ → ℕ) (issued k : ℕ) (p : PathOf S) → Tree (links v.nodes) v.head v.free (named v.tips v.holds) serial issued → Tree (links v'.nodes) v'.head v'.free (named v'.tips v'.holds) serial issued → 0 < named v.tips v.holds k → 0 < named v'.tips v'.holds k → Track (links v.nodes) (states v.nodes) serial (Some k) p → Track (links v'.nodes) (states v'.nodes) serial (Some k) p
  track_on serial issued k p t t' a b r = subst (λ us. Track (links v'.nodes) us serial (Some k) p) (sym kept.same_states)
      (kept_stays (links v.nodes) (links v'.nodes) (states v.nodes) v.head v'.head v.free v'.free (named v.tips v.holds) (named v'.tips v'.holds) serial issued t t' same_links kept.same_parents (Some k) p
      (λ x e. let z : k ≡ x = cc in subst (λ y. 0 < named v.tips v.holds y) z a) (λ x e. let z : k ≡ x = cc in subst (λ y. 0 < named v'.tips v'.holds y) z b) r)

-- the free nodes are as many as the filter has
pub free_represented : {S : Type 0} (node : ℕ → ℕ) (v : View S) (f : Filter S) → Represents node v f → free f ≡ v.free
free_represented node v f h = let a = in_use_represented node v f h in omega (arith, h.room)
