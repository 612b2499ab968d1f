-- Paths stay, and one gets longer, as the tree changes.
use Rattle.std.proofs.Common.{◌≡◌, ℕ, ◌+◌, ◌-◌, ◌<◌, ◌≤◌, ◌≢◌, List, [], ◌∷◌, length, get_or, set, Some, Option, sym, refl, ap, ◌∙◌, subst, arith}
use Rattle.std.proofs.lemmas.List.{length-set, get_or-set_same, get_or-set_other}
use Rattle.filter.specs.Filters.{PathOf}
use Rattle.cloud.specs.Links.{Link, linked, link_at, Kept}
use Rattle.cloud.specs.Trees.{is_node, is_named, Tree, with_serial}
use Rattle.cloud.specs.Tracks.{Track, IsNamed}
use Rattle.cloud.proofs.Links.{link_at_other, link_at_same}
use Rattle.cloud.proofs.Tallies.{is_node_same, with_serial_same, with_serial_other}
use Rattle.cloud.proofs.Trees.{named_used, tree_issue, head_free}
use Rattle.cloud.proofs.Exactness.{parent_used}

-- a path stays, where its nodes are in use before and after, and those in use both times are as they were
module _ {S : Type 0} (ls ms : List Link) (ss ts : List S) (h h' : Option ℕ) (f f' : ℕ) (w w' serial serial' : ℕ → ℕ) (k k' : ℕ) (t : Tree ls h f w serial k) (t' : Tree ms h' f' w' serial' k') (len : length ms ≡ length ls) (same : (n : ℕ) → n < length ls → 0 < (link_at ls n).count → 0 < (link_at ms n).count → ((link_at ms n).parent ≡ (link_at ls n).parent) × (serial' n ≡ serial n) × ((d : S) → get_or ts n d ≡ get_or ss n d)) where
  pub track_live : (o : Option ℕ) (p : PathOf S) → ((r : ℕ) → o ≡ Some r → (0 < (link_at ls r).count) × (0 < (link_at ms r).count)) → Track ls ss serial o p → Track ms ts serial' o p
  track_live o [] live e = e
  track_live o (x ∷ p) live (n, e, l, s, d, r) =
      let a = live n e in
      let q = same n l a.0 a.1 in
      let l' : n < length ms = omega arith in
      (n, e, l', q.1 ∙ s, (λ v. q.2 v ∙ d v), subst (λ o. Track ms ts serial' o p) (sym q.0) (track_live (link_at ls n).parent p (λ r b. ((parent_used ls h f w serial k t n r l a.0 b).1, (parent_used ms h' f' w' serial' k' t' n r l' a.1 (q.0 ∙ b)).1)) r))

  pub track_stays : (o : Option ℕ) (p : PathOf S) → IsNamed w o → IsNamed w' o → Track ls ss serial o p → Track ms ts serial' o p
  track_stays o p a b = track_live o p (λ r e. ((named_used ls h f w serial k r t (a r e)).1, (named_used ms h' f' w' serial' k' r t' (b r e)).1))

-- a new node: the paths stay, and one is longer by a pair
module _ {S : Type 0} (ls : List Link) (ss : List S) (node free : ℕ) (b : Option ℕ) (state : S) (w serial : ℕ → ℕ) (k : ℕ) (slen : length ss ≡ length ls) (t : Tree ls (Some node) free (λ n. w n + is_named b n) serial k) where
  issue_same : (n : ℕ) → n < length ls → 0 < (link_at ls n).count → 0 < (link_at (set ls node (linked 1 b)) n).count → ((link_at (set ls node (linked 1 b)) n).parent ≡ (link_at ls n).parent) × (with_serial serial node k n ≡ serial n) × ((d : S) → get_or (set ss node state) n d ≡ get_or ss n d)
  issue_same n l h h2 =
      let ne : n ≢ node = λ e. let z : (link_at ls node).count ≤ 0 = (head_free ls node free (λ n. w n + is_named b n) serial k t).1 in let y : 0 < (link_at ls node).count = subst (λ j. 0 < (link_at ls j).count) e h in omega arith in
      (ap (λ x. x.parent) (link_at_other ls node n (linked 1 b) ne), with_serial_other serial node k n ne, λ d. get_or-set_other ss node n state d ne)

  issued_tree : Tree (set ls node (linked 1 b)) (link_at ls node).parent (free - 1) (λ n. w n + is_node n node) (with_serial serial node k) (k + 1)
  issued_tree = tree_issue ls node free b w serial k t

  pub issue_stays : (o : Option ℕ) (p : PathOf S) → IsNamed w o → Track ls ss serial o p → Track (set ls node (linked 1 b)) (set ss node state) (with_serial serial node k) o p
  issue_stays o p e = track_stays ls (set ls node (linked 1 b)) ss (set ss node state) (Some node) (link_at ls node).parent free (free - 1) (λ n. w n + is_named b n) (λ n. w n + is_node n node) serial (with_serial serial node k) k (k + 1) t issued_tree (length-set ls node (linked 1 b)) issue_same o p (λ r q. omega (arith, e r q)) (λ r q. omega (arith, e r q))

  pub issue_longer : (p : PathOf S) → Track ls ss serial b p → Track (set ls node (linked 1 b)) (set ss node state) (with_serial serial node k) (Some node) (record { state = state; serial = k } ∷ p)
  issue_longer p r =
      let hf = head_free ls node free (λ n. w n + is_named b n) serial k t in
      let live : (q : ℕ) → b ≡ Some q → (0 < (link_at ls q).count) × (0 < (link_at (set ls node (linked 1 b)) q).count)
      = λ q e.
      let fq : is_named b q ≡ 1 = ap (λ o. is_named o q) e ∙ is_node_same q in
      let a : 0 < (link_at ls q).count = (named_used ls (Some node) free (λ n. w n + is_named b n) serial k q t (omega (arith, fq))).1 in
      let ne : q ≢ node = λ z. let y : 0 < (link_at ls node).count = subst (λ j. 0 < (link_at ls j).count) z a in omega (arith, hf.1) in
      (a, subst (λ x. 0 < x.count) (sym (link_at_other ls node q (linked 1 b) ne)) a) in
      let r' = track_live ls (set ls node (linked 1 b)) ss (set ss node state) (Some node) (link_at ls node).parent free (free - 1) (λ n. w n + is_named b n) (λ n. w n + is_node n node) serial (with_serial serial node k) k (k + 1) t issued_tree (length-set ls node (linked 1 b)) issue_same b p live r in
      let l : node < length (set ls node (linked 1 b)) = omega (arith, hf.0, length-set ls node (linked 1 b)) in
      (node, refl, l, with_serial_same serial node k, (λ d. get_or-set_same ss node state d (omega (arith, hf.0))), subst (λ x. Track (set ls node (linked 1 b)) (set ss node state) (with_serial serial node k) x.parent p) (sym (link_at_same ls node (linked 1 b) hf.0)) r')

-- where less is named, or one thing more, the paths from what is still named stay
pub kept_stays : {S : Type 0} (ls ms : List Link) (ss : List S) (h h' : Option ℕ) (f f' : ℕ) (w w' serial : ℕ → ℕ) (k : ℕ) → Tree ls h f w serial k → Tree ms h' f' w' serial k → length ms ≡ length ls → Kept ls ms → (o : Option ℕ) (p : PathOf S) → IsNamed w o → IsNamed w' o → Track ls ss serial o p → Track ms ss serial o p
kept_stays ls ms ss h h' f f' w w' serial k t t' len kept o p = track_stays ls ms ss ss h h' f f' w w' serial serial k k t t' len (λ n _ _ l. ((kept n l).1, refl, λ d. refl)) o p
