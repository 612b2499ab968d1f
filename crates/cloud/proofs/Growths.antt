-- A node more issued.
use Rattle.std.proofs.Common.{◌≡◌, ℕ, ◌+◌, ◌-◌, ◌<◌, ◌≤◌, ◌≢◌, List, ◌∷◌, length, set, Some, Option, sym, refl, ap, ◌∙◌, subst, ⊎_elim, arith}
use Rattle.std.proofs.lemmas.List.{length-set}
use Rattle.std.proofs.lemmas.Bool.{cases_eq, cases_lt}
use Rattle.filter.specs.Filters.{PathOf}
use Rattle.cloud.specs.Links.{Link, linked, link_at}
use Rattle.cloud.specs.Trees.{is_node, is_named, Tree, with_serial}
use Rattle.cloud.specs.Tracks.{Track, IsNamed, Inverse, Grown}
use Rattle.cloud.proofs.Links.{link_at_other}
use Rattle.cloud.proofs.Tallies.{with_serial_same, with_serial_other}
use Rattle.cloud.proofs.Trees.{tree_issue, head_free, tree_same}
use Rattle.cloud.proofs.Tracking.{issue_stays, issue_longer}

-- one node more, which takes the name of its parent b, if it has one; v says what else names each node
module _ {S : Type 0} (ls ms : List Link) (ss ts : List S) (free i nd : ℕ) (b : Option ℕ) (state : S) (names v w serial node : ℕ → ℕ) (issued : ℕ) (lt : length ts ≡ length ms) (apart : (k : ℕ) → names k ≡ v k + is_named b k) (rest : (k : ℕ) → w k ≤ v k) (g : Grown ls ms ss ts (Some nd) free names i w serial node issued) where
  pub before : Tree ms (Some nd) free (λ k. v k + is_named b k) g.serial' (issued + i)
  before = tree_same ms (Some nd) free names (λ k. v k + is_named b k) g.serial' (issued + i) (λ k. sym (apart k)) g.tree

  pub unused : (nd < length ms) × ((link_at ms nd).count ≤ 0)
  unused = head_free ms nd free (λ k. v k + is_named b k) g.serial' (issued + i) before

  pub path_on : (o : Option ℕ) (p : PathOf S) → IsNamed v o → Track ms ts g.serial' o p → Track (set ms nd (linked 1 b)) (set ts nd state) (with_serial g.serial' nd (issued + i)) o p
  path_on = issue_stays ms ts nd free b state v g.serial' (issued + i) lt before

  pub path_longer : (p : PathOf S) → Track ms ts g.serial' b p → Track (set ms nd (linked 1 b)) (set ts nd state) (with_serial g.serial' nd (issued + i)) (Some nd) (record { state = state; serial = issued + i } ∷ p)
  path_longer = issue_longer ms ts nd free b state v g.serial' (issued + i) lt before

  pub was_there : (k : ℕ) → 0 < (link_at (set ms nd (linked 1 b)) k).count → k ≢ nd → 0 < (link_at ms k).count
  was_there k q ne = subst (λ x. 0 < x.count) (link_at_other ms nd k (linked 1 b) ne) q

  unfoldable pub grown_more : (names' : ℕ → ℕ) (i' : ℕ) → ((k : ℕ) → names' k ≡ v k + is_node k nd) → i' ≡ i + 1 → Grown ls (set ms nd (linked 1 b)) ss (set ts nd state) (link_at ms nd).parent (free - 1) names' i' w serial node issued
  grown_more names' i' now more = record {
    serial' = with_serial g.serial' nd (issued + i);
    node' = with_serial g.node' (issued + i) nd;
    size = length-set ms nd (linked 1 b) ∙ g.size;
    tree =
        let q : (issued + i) + 1 ≡ issued + i' = omega arith in
        subst (λ u. Tree (set ms nd (linked 1 b)) (link_at ms nd).parent (free - 1) names' (with_serial g.serial' nd (issued + i)) u) q
        (tree_same _ _ _ (λ k. v k + is_node k nd) names' _ _ now (tree_issue ms nd free b v g.serial' (issued + i) before));
    inverse = λ k l q. ⊎_elim
        (λ e. subst (λ x. with_serial g.node' (issued + i) nd (with_serial g.serial' nd (issued + i) x) ≡ x) (sym e) (ap (with_serial g.node' (issued + i) nd) (with_serial_same g.serial' nd (issued + i)) ∙ with_serial_same g.node' (issued + i) nd))
        (λ ne.
        let lk : k < length ms = omega (arith, length-set ms nd (linked 1 b)) in
        let c = was_there k q ne in
        let p = g.tree.past k lk c in
        ap (with_serial g.node' (issued + i) nd) (with_serial_other g.serial' nd (issued + i) k ne) ∙ with_serial_other g.node' (issued + i) nd (g.serial' k) (omega (arith, p)) ∙ g.inverse k lk c)
        (cases_eq k nd);
    older = λ s l. with_serial_other g.node' (issued + i) nd s (omega arith) ∙ g.older s l;
    fresh = λ s l l2. ⊎_elim
        (λ e.
        let z : (link_at ls nd).count ≡ 0 = ⊎_elim (λ q. absurd (omega (arith, g.grows nd q, unused.1))) (λ q. omega arith) (cases_lt 0 (link_at ls nd).count) in
        subst (λ x. (link_at ls (with_serial g.node' (issued + i) nd x)).count ≡ 0) (sym e) (subst (λ x. (link_at ls x).count ≡ 0) (sym (with_serial_same g.node' (issued + i) nd)) z))
        (λ ne. subst (λ x. (link_at ls x).count ≡ 0) (sym (with_serial_other g.node' (issued + i) nd s ne)) (g.fresh s l (omega arith)))
        (cases_eq s (issued + i));
    grows = λ k q.
        let c = g.grows k q in
        let ne : k ≢ nd = λ e. let z : 0 < (link_at ms nd).count = subst (λ x. 0 < (link_at ms x).count) e c in omega (arith, unused.1) in
        subst (λ x. 0 < x.count) (sym (link_at_other ms nd k (linked 1 b) ne)) c;
    stays = λ o p e r. path_on o p (λ q z. omega (arith, e q z, rest q)) (g.stays o p e r);
  }

unfoldable pub grown_none : {S : Type 0} (ls : List Link) (ss : List S) (head : Option ℕ) (free : ℕ) (names w serial node : ℕ → ℕ) (issued : ℕ) → Tree ls head free names serial issued → Inverse ls serial node → Grown ls ls ss ss head free names 0 w serial node issued
grown_none ls ss head free names w serial node issued t inv = record {
  serial' = serial;
  node' = node;
  size = refl;
  tree = let q : issued ≡ issued + 0 = omega arith in subst (λ v. Tree ls head free names serial v) q t;
  inverse = inv;
  older = λ s l. refl;
  fresh = λ s l l2. absurd (omega arith);
  grows = λ k q. q;
  stays = λ o p _ r. r;
}
