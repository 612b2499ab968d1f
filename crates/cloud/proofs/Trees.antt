-- What the operations do to a tree.
use Rattle.std.proofs.Common.{◌≡◌, ℕ, suc, ◌+◌, ◌-◌, ◌<◌, ◌≤◌, ◌≢◌, List, [], ◌∷◌, true, length, set, is_some, Some, None, sum_by, Option, sym, refl, ap, ◌∙◌, subst, ⊎_elim, arith}
use mathlib.Core.Logic.{∥∥₁_elim}
use mathlib.Core.HLevel.{⊥_prop}
use Rattle.std.proofs.lemmas.List.Sums.{sum_by-set, get_or-le-sum_by}
use native.Mathlib.Bridge.{le_prop}
use Rattle.std.proofs.lemmas.List.{length-set}
use Rattle.std.proofs.lemmas.Bool.{cases_eq, cases_lt}
use Rattle.cloud.specs.Links.{linked, Link, no_link, link_at}
use Rattle.cloud.specs.Trees.{is_node, is_named, occurrences, is_used, is_child, Chain, Tree, with_serial, SomeTree}
use Rattle.cloud.proofs.Tallies.{is_node_same, is_node_other, is_used_free, is_used_used, is_child_free, is_child_used, with_serial_same, with_serial_other, free_from_is_used, is_named_other}
use Rattle.cloud.proofs.Links.{link_at_same, link_at_other, link_at_cases}

-- a write at a node that is not listed leaves the chain
pub chain_set : (ls : List Link) (h : Option ℕ) (fs : List ℕ) (i : ℕ) (y : Link) → occurrences i fs ≡ 0 → Chain ls h fs → Chain (set ls i y) h fs
chain_set ls h [] i y o c = c
chain_set ls h (f ∷ fs) i y o (e, l, c) =
    let ne : f ≢ i = λ q. let z : is_node i f ≡ 1 = subst (λ g. is_node i g ≡ 1) (sym q) (is_node_same i) in omega arith in
    let o' : occurrences i fs ≡ 0 = omega arith in
    (e, simp length-set l, rw (link_at_other ls i f y ne) (chain_set ls (link_at ls f).parent fs i y o' c))

-- another count above 0: what names nodes changes at i alone
pub tree_recount : (ls : List Link) (head : Option ℕ) (free : ℕ) (w w' serial : ℕ → ℕ) (issued i c : ℕ) → i < length ls → 0 < (link_at ls i).count → 0 < c → ((n : ℕ) → n ≢ i → w' n ≡ w n) → c + w i ≡ (link_at ls i).count + w' i → Tree ls head free w serial issued → Tree (set ls i (record { count = c; parent = (link_at ls i).parent })) head free w' serial issued
tree_recount ls head free w w' serial issued i c h pos pos' rest release_here t =
    let y : Link = record { count = c; parent = (link_at ls i).parent } in
    let ls' : List Link = set ls i y in
    let len : length ls' ≡ length ls = length-set ls i y in
    let ay : is_used y ≡ 1 = is_used_used y pos' in
    let ai : is_used (link_at ls i) ≡ 1 = is_used_used (link_at ls i) pos in
    let oi : occurrences i t.free_list ≡ 0 = omega (arith, t.listed i h) in
    let was : (m : ℕ) → 0 < (link_at ls' m).count → 0 < (link_at ls m).count
    = λ m. link_at_cases ls i y m h (λ x. 0 < x.count → 0 < (link_at ls m).count) (λ e _. subst (λ j. 0 < (link_at ls j).count) (sym e) pos) (λ _ q. q) in
    let link : (m : ℕ) → (link_at ls' m).parent ≡ (link_at ls m).parent
    = λ m. link_at_cases ls i y m h (λ x. x.parent ≡ (link_at ls m).parent) (λ e. ap (λ j. (link_at ls j).parent) (sym e)) (λ _. refl) in
    let children : (n : ℕ) → sum_by (is_child n) ls' ≡ sum_by (is_child n) ls
    = λ n. let s = sum_by-set (is_child n) ls i y no_link h in let a = is_child_used n y pos' in let b = is_child_used n (link_at ls i) pos in omega (arith, s, a, b) in
    record {
      few = omega (arith, t.few);
      free_list = t.free_list;
      chain = chain_set ls head t.free_list i y oi t.chain;
      size = t.size;
      listed = λ n l. let l' : n < length ls = omega arith in link_at_cases ls i y n h (λ x. occurrences n t.free_list + is_used x ≡ 1) (λ e. subst (λ j. occurrences j t.free_list + is_used y ≡ 1) (sym e) (omega arith)) (λ _. t.listed n l');
      whole = let s = sum_by-set is_used ls i y no_link h in omega (arith, s, t.whole);
      counts = λ n l. let l' : n < length ls = omega arith in link_at_cases ls i y n h (λ x. x.count ≡ w' n + sum_by (is_child n) ls') (λ e. subst (λ j. c ≡ w' j + sum_by (is_child j) ls') (sym e) (omega (arith, children i, t.counts i h))) (λ ne. omega (arith, children n, t.counts n l', rest n ne));
      inside = λ n l. let l' : length ls ≤ n = omega arith in let ne : n ≢ i = omega arith in rest n ne ∙ t.inside n l';
      older = λ m p l q e. let l' : m < length ls = omega arith in let r = t.older m p l' (was m q) (sym (link m) ∙ e) in (omega (arith, r.0), r.1);
      past = λ m l q. let l' : m < length ls = omega arith in t.past m l' (was m q);
      apart = λ m n l l2 q q2 e. let l' : m < length ls = omega arith in let l2' : n < length ls = omega arith in t.apart m n l' l2' (was m q) (was n q2) e;
    }

-- a free list that begins with f
pub chain_head : (ls : List Link) (f : ℕ) (fs : List ℕ) → Chain ls (Some f) fs → (gs : List ℕ) × (fs ≡ f ∷ gs) × (f < length ls) × Chain ls (link_at ls f).parent gs
chain_head ls f [] c = let z : ◌≡◌ {A = ℕ} 0 1 = cc in absurd (omega arith)
chain_head ls f (g ∷ gs) (e, l, c) =
    let q : g ≡ f = cc in
    (gs, ap (λ j. j ∷ gs) q, subst (λ j. j < length ls) q l, subst (λ j. Chain ls (link_at ls j).parent gs) q c)

-- the first free node taken: what named the parent, if there is one, names the new node
pub tree_issue : (ls : List Link) (f free : ℕ) (b : Option ℕ) (w serial : ℕ → ℕ) (issued : ℕ) → Tree ls (Some f) free (λ n. w n + is_named b n) serial issued → Tree (set ls f (record { count = 1; parent = b })) (link_at ls f).parent (free - 1) (λ n. w n + is_node n f) (with_serial serial f issued) (issued + 1)
tree_issue ls f free b w serial issued t =
    let y : Link = record { count = 1; parent = b } in
    let hc = chain_head ls f t.free_list t.chain in
    let gs : List ℕ = hc.0 in
    let h : f < length ls = hc.2 in
    let ls' : List Link = set ls f y in
    let len : length ls' ≡ length ls = length-set ls f y in
    let list : (n : ℕ) → n < length ls → (is_node n f + occurrences n gs) + is_used (link_at ls n) ≡ 1
    = λ n l. subst (λ us. occurrences n us + is_used (link_at ls n) ≡ 1) hc.1 (t.listed n l) in
    let sz : suc (length gs) ≡ free = subst (λ us. length us ≡ free) hc.1 t.size in
    let same = is_node_same f in
    let og : occurrences f gs ≡ 0 = omega (arith, list f h) in
    let af : is_used (link_at ls f) ≡ 0 = omega (arith, list f h) in
    let cf : (link_at ls f).count ≡ 0 = free_from_is_used (link_at ls f) af in
    let zero-f = t.counts f h in
    let none_on : (m : ℕ) → m < length ls → 0 < (link_at ls m).count → (link_at ls m).parent ≡ Some f → ⊥
    = λ m l q e. let k1 : is_child f (link_at ls m) ≡ 1 = is_child_used f (link_at ls m) q ∙ ap (λ o. is_named o f) e ∙ same in omega (arith, get_or-le-sum_by (is_child f) ls m no_link l, k1, zero-f, cf) in
    let bp : (p : ℕ) → b ≡ Some p → (p ≢ f) × (p < length ls) × (serial p < issued)
    = λ p e.
    let fp : is_named b p ≡ 1 = ap (λ o. is_named o p) e ∙ is_node_same p in
    let ff : (j : ℕ) → is_named b j ≡ is_node j p = λ j. ap (λ o. is_named o j) e in
    let ne : p ≢ f = λ q. let z : is_named b f ≡ 1 = subst (λ j. is_named b j ≡ 1) q fp in omega (arith, z, zero-f, cf) in
    let pl : p < length ls = ⊎_elim (λ l. l) (λ l. absurd (omega (arith, t.inside p l, fp))) (cases_lt p (length ls)) in
    let pc : 0 < (link_at ls p).count = omega (arith, t.counts p pl, fp) in
    (ne, pl, t.past p pl pc) in
    let ay : is_used y ≡ 1 = is_used_used y (omega arith) in
    let children : (n : ℕ) → sum_by (is_child n) ls' ≡ sum_by (is_child n) ls + is_named b n
    = λ n. let s = sum_by-set (is_child n) ls f y no_link h in let a = is_child_used n y (omega arith) in let d = is_child_free n (link_at ls f) cf in omega (arith, s, a, d) in
    let was : (m : ℕ) → m ≢ f → link_at ls' m ≡ link_at ls m = λ m ne. link_at_other ls f m y ne in
    record {
      few = omega (arith, t.few);
      free_list = gs;
      chain = chain_set ls (link_at ls f).parent gs f y og hc.3;
      size = omega arith;
      listed = λ n l. let l' : n < length ls = omega arith in link_at_cases ls f y n h (λ x. occurrences n gs + is_used x ≡ 1) (λ e. subst (λ j. occurrences j gs + is_used y ≡ 1) (sym e) (omega arith)) (λ ne. omega (arith, list n l', is_node_other n f ne));
      whole = let s = sum_by-set is_used ls f y no_link h in omega (arith, s, t.whole);
      counts = λ n l. let l' : n < length ls = omega arith in link_at_cases ls f y n h (λ x. x.count ≡ (w n + is_node n f) + sum_by (is_child n) ls') (λ e. subst (λ j. 1 ≡ (w j + is_node j f) + sum_by (is_child j) ls') (sym e) (omega (arith, children f, zero-f))) (λ ne. omega (arith, children n, t.counts n l', is_node_other n f ne));
      inside = λ n l. let l' : length ls ≤ n = omega arith in let ne : n ≢ f = omega arith in omega (arith, t.inside n l', is_node_other n f ne);
      older = λ m p l q e.
          let l' : m < length ls = omega arith in
          ⊎_elim
          (λ mf.
          let eb : b ≡ Some p = sym (ap (λ x. x.parent) (link_at_same ls f y h)) ∙ subst (λ j. (link_at ls' j).parent ≡ Some p) mf e in
          let r = bp p eb in
          (omega (arith, r.1), omega (arith, r.2, with_serial_other serial f issued p r.0, ap (with_serial serial f issued) mf, with_serial_same serial f issued)))
          (λ ne.
          let q' : 0 < (link_at ls m).count = subst (λ x. 0 < x.count) (was m ne) q in
          let e' : (link_at ls m).parent ≡ Some p = subst (λ x. x.parent ≡ Some p) (was m ne) e in
          let r = t.older m p l' q' e' in
          let pf : p ≢ f = λ pe. none_on m l' q' (e' ∙ ap Some pe) in
          (omega (arith, r.0), omega (arith, r.1, with_serial_other serial f issued p pf, with_serial_other serial f issued m ne)))
          (cases_eq m f);
      past = λ m l q.
          let l' : m < length ls = omega arith in
          ⊎_elim
          (λ mf. omega (arith, ap (with_serial serial f issued) mf, with_serial_same serial f issued))
          (λ ne. omega (arith, with_serial_other serial f issued m ne, t.past m l' (subst (λ x. 0 < x.count) (was m ne) q)))
          (cases_eq m f);
      apart = λ m n l l2 q q2 e.
          let l' : m < length ls = omega arith in
          let l2' : n < length ls = omega arith in
          let old : (j : ℕ) → j < length ls → 0 < (link_at ls' j).count → j ≢ f → 0 < (link_at ls j).count = λ j _ qj ne. subst (λ x. 0 < x.count) (was j ne) qj in
          ⊎_elim
          (λ mf. ⊎_elim
          (λ nf. mf ∙ sym nf)
          (λ ne. absurd (omega (arith, e, ap (with_serial serial f issued) mf, with_serial_same serial f issued, with_serial_other serial f issued n ne, t.past n l2' (old n l2' q2 ne))))
          (cases_eq n f))
          (λ me. ⊎_elim
          (λ nf. absurd (omega (arith, e, ap (with_serial serial f issued) nf, with_serial_same serial f issued, with_serial_other serial f issued m me, t.past m l' (old m l' q me))))
          (λ ne. t.apart m n l' l2' (old m l' q me) (old n l2' q2 ne) (sym (with_serial_other serial f issued m me) ∙ e ∙ with_serial_other serial f issued n ne))
          (cases_eq n f))
          (cases_eq m f);
    }

-- a node on which one thing hangs, which names it, freed: its parent, if there is one, is named instead
pub tree_free : (ls : List Link) (head : Option ℕ) (i free : ℕ) (w serial : ℕ → ℕ) (issued : ℕ) → i < length ls → (link_at ls i).count ≡ 1 → Tree ls head free (λ n. w n + is_node n i) serial issued → Tree (set ls i (record { count = 0; parent = head })) (Some i) (free + 1) (λ n. w n + is_named (link_at ls i).parent n) serial issued
tree_free ls head i free w serial issued h c1 t =
    let y : Link = record { count = 0; parent = head } in
    let b : Option ℕ = (link_at ls i).parent in
    let ls' : List Link = set ls i y in
    let len : length ls' ≡ length ls = length-set ls i y in
    let same = is_node_same i in
    let pos : 0 < (link_at ls i).count = omega arith in
    let ai : is_used (link_at ls i) ≡ 1 = is_used_used (link_at ls i) pos in
    let ay : is_used y ≡ 0 = is_used_free y refl in
    let oi : occurrences i t.free_list ≡ 0 = omega (arith, t.listed i h) in
    let children : (n : ℕ) → sum_by (is_child n) ls' + is_named b n ≡ sum_by (is_child n) ls
    = λ n. let s = sum_by-set (is_child n) ls i y no_link h in let a = is_child_free n y refl in let d = is_child_used n (link_at ls i) pos in omega (arith, s, a, d) in
    let mine = t.counts i h in
    let live : (m : ℕ) → 0 < (link_at ls' m).count → m ≢ i = λ m q e. let z : 0 < y.count = subst (λ x. 0 < x.count) (link_at_same ls i y h) (subst (λ j. 0 < (link_at ls' j).count) e q) in omega arith in
    let was : (m : ℕ) → 0 < (link_at ls' m).count → link_at ls' m ≡ link_at ls m = λ m q. link_at_other ls i m y (live m q) in
    let old : (m : ℕ) → 0 < (link_at ls' m).count → 0 < (link_at ls m).count = λ m q. subst (λ x. 0 < x.count) (was m q) q in
    record {
      few = omega (arith, t.few);
      free_list = i ∷ t.free_list;
      chain = (refl, omega arith, subst (λ x. Chain ls' x.parent t.free_list) (sym (link_at_same ls i y h)) (chain_set ls head t.free_list i y oi t.chain));
      size = omega (arith, t.size);
      listed = λ n l. let l' : n < length ls = omega arith in link_at_cases ls i y n h (λ x. (is_node n i + occurrences n t.free_list) + is_used x ≡ 1) (λ e. subst (λ j. (is_node j i + occurrences j t.free_list) + is_used y ≡ 1) (sym e) (omega arith)) (λ ne. omega (arith, t.listed n l', is_node_other n i ne));
      whole = let s = sum_by-set is_used ls i y no_link h in omega (arith, s, t.whole);
      counts = λ n l. let l' : n < length ls = omega arith in link_at_cases ls i y n h (λ x. x.count ≡ (w n + is_named b n) + sum_by (is_child n) ls') (λ e. subst (λ j. 0 ≡ (w j + is_named b j) + sum_by (is_child j) ls') (sym e) (omega (arith, children i, mine, c1))) (λ ne. omega (arith, children n, t.counts n l', is_node_other n i ne));
      inside = λ n l. let l' : length ls ≤ n = omega arith in let z = is_named_other b n (λ p e. let r = (t.older i p h pos e).0 in omega (arith, r)) in omega (arith, t.inside n l', z);
      older = λ m p l q e. let l' : m < length ls = omega arith in let r = t.older m p l' (old m q) (subst (λ x. x.parent ≡ Some p) (was m q) e) in (omega (arith, r.0), r.1);
      past = λ m l q. let l' : m < length ls = omega arith in t.past m l' (old m q);
      apart = λ m n l l2 q q2 e. let l' : m < length ls = omega arith in let l2' : n < length ls = omega arith in t.apart m n l' l2' (old m q) (old n q2) e;
    }

-- the same, of what the code reads and writes
pub tree_retained : (ls ms : List Link) (head : Option ℕ) (free : ℕ) (w serial : ℕ → ℕ) (issued i c : ℕ) (b : Option ℕ) → i < length ls → 0 < (link_at ls i).count → c ≡ (link_at ls i).count → b ≡ (link_at ls i).parent → ms ≡ set ls i (linked (c + 1) b) → Tree ls head free w serial issued → Tree ms head free (λ n. w n + is_node n i) serial issued
tree_retained ls ms head free w serial issued i c b h pos p q e t =
    let r = tree_recount ls head free w (λ n. w n + is_node n i) serial issued i (c + 1) h pos (omega arith) (λ n ne. omega (arith, is_node_other n i ne)) (omega (arith, is_node_same i)) t in
    subst (λ us. Tree us head free (λ n. w n + is_node n i) serial issued) (sym (e ∙ ap (λ o. set ls i (linked (c + 1) o)) q)) r

pub tree_lowered : (ls ms : List Link) (head : Option ℕ) (free : ℕ) (w serial : ℕ → ℕ) (issued i c : ℕ) (b : Option ℕ) → i < length ls → 1 < c → c ≡ (link_at ls i).count → b ≡ (link_at ls i).parent → ms ≡ set ls i (linked (c - 1) b) → Tree ls head free (λ n. w n + is_node n i) serial issued → Tree ms head (free + 0) (λ n. w n + 0) serial issued
tree_lowered ls ms head free w serial issued i c b h pos p q e t =
    let r = tree_recount ls head free (λ n. w n + is_node n i) (λ n. w n + 0) serial issued i (c - 1) h (omega arith) (omega arith) (λ n ne. omega (arith, is_node_other n i ne)) (omega (arith, is_node_same i)) t in
    let f : free ≡ free + 0 = omega arith in
    subst (λ v. Tree ms head v (λ n. w n + 0) serial issued) f (subst (λ us. Tree us head free (λ n. w n + 0) serial issued) (sym (e ∙ ap (λ o. set ls i (linked (c - 1) o)) q)) r)

pub tree_freed : (ls ms : List Link) (head : Option ℕ) (free : ℕ) (w serial : ℕ → ℕ) (issued i c : ℕ) (b : Option ℕ) → i < length ls → c ≡ 1 → c ≡ (link_at ls i).count → b ≡ (link_at ls i).parent → ms ≡ set ls i (linked 0 head) → Tree ls head free (λ n. w n + is_node n i) serial issued → Tree ms (Some i) (free + 1) (λ n. w n + is_named b n) serial issued
tree_freed ls ms head free w serial issued i c b h one' p q e t =
    let r = tree_free ls head i free w serial issued h (omega arith) t in
    subst (λ o. Tree ms (Some i) (free + 1) (λ n. w n + is_named o n) serial issued) (sym q) (subst (λ us. Tree us (Some i) (free + 1) (λ n. w n + is_named (link_at ls i).parent n) serial issued) (sym e) r)

pub tree_issued : (ls ms : List Link) (f free : ℕ) (b next : Option ℕ) (w serial : ℕ → ℕ) (issued : ℕ) → next ≡ (link_at ls f).parent → ms ≡ set ls f (linked 1 b) → Tree ls (Some f) free (λ n. w n + is_named b n) serial issued → Tree ms next (free - 1) (λ n. w n + is_node n f) (with_serial serial f issued) (issued + 1)
tree_issued ls ms f free b next w serial issued q e t =
    let r = tree_issue ls f free b w serial issued t in
    subst (λ o. Tree ms o (free - 1) (λ n. w n + is_node n f) (with_serial serial f issued) (issued + 1)) (sym q)
    (subst (λ us. Tree us (link_at ls f).parent (free - 1) (λ n. w n + is_node n f) (with_serial serial f issued) (issued + 1)) (sym e) r)

-- the same names, said otherwise
pub tree_same : (ls : List Link) (head : Option ℕ) (free : ℕ) (w w' serial : ℕ → ℕ) (issued : ℕ) → ((n : ℕ) → w' n ≡ w n) → Tree ls head free w serial issued → Tree ls head free w' serial issued
tree_same ls head free w w' serial issued e t = record {
  few = t.few;
  free_list = t.free_list;
  chain = t.chain;
  size = t.size;
  listed = t.listed;
  whole = t.whole;
  counts = λ n l. omega (arith, t.counts n l, e n);
  inside = λ n l. e n ∙ t.inside n l;
  older = t.older;
  past = t.past;
  apart = t.apart;
}

-- a node that is named is in use
pub named_used : (ls : List Link) (head : Option ℕ) (free : ℕ) (w serial : ℕ → ℕ) (issued i : ℕ) → Tree ls head free w serial issued → 0 < w i → (i < length ls) × (0 < (link_at ls i).count)
named_used ls head free w serial issued i t h =
    let l : i < length ls = ⊎_elim (λ l. l) (λ l. absurd (omega (arith, t.inside i l))) (cases_lt i (length ls)) in
    (l, omega (arith, t.counts i l))

pub no_head : (ls : List Link) (free : ℕ) (w serial : ℕ → ℕ) (issued : ℕ) → Tree ls None free w serial issued → free ≡ 0
no_head ls free w serial issued t = sym t.size ∙ ap length (nil ls t.free_list t.chain)
  where
    nil : (ls : List Link) (fs : List ℕ) → Chain ls None fs → fs ≡ []
    nil ls [] c = refl
    nil ls (f ∷ fs) (e, l, c) = let z : ◌≡◌ {A = ℕ} 0 1 = cc in absurd (omega arith)

-- the first free node is there, and not in use
pub head_free : (ls : List Link) (f free : ℕ) (w serial : ℕ → ℕ) (issued : ℕ) → Tree ls (Some f) free w serial issued → (f < length ls) × ((link_at ls f).count ≤ 0)
head_free ls f free w serial issued t =
    let hc = chain_head ls f t.free_list t.chain in
    let o2 : occurrences f t.free_list ≡ is_node f f + occurrences f hc.0 = ap (occurrences f) hc.1 in
    let a : is_used (link_at ls f) ≡ 0 = omega (arith, t.listed f hc.2, o2, is_node_same f) in
    (hc.2, omega (arith, free_from_is_used (link_at ls f) a))

pub some_tree_head : (ls : List Link) (head : Option ℕ) (free : ℕ) → SomeTree ls head free → 0 < free → is_some head ≡ true
some_tree_head ls None free h pos = absurd (∥∥₁_elim h ⊥_prop (λ (w, serial, issued, t). omega (arith, no_head ls free w serial issued t)))
some_tree_head ls (Some f) free h pos = refl

pub some_tree_head_inside : (ls : List Link) (head : Option ℕ) (free f : ℕ) → SomeTree ls head free → head ≡ Some f → f < length ls
some_tree_head_inside ls head free f h e = ∥∥₁_elim h le_prop (λ (w, serial, issued, t). (head_free ls f free w serial issued (subst (λ o. Tree ls o free w serial issued) e t)).0)

pub some_tree_head_free : (ls : List Link) (head : Option ℕ) (free f : ℕ) → SomeTree ls head free → head ≡ Some f → (link_at ls f).count ≤ 0
some_tree_head_free ls head free f h e = ∥∥₁_elim h le_prop (λ (w, serial, issued, t). (head_free ls f free w serial issued (subst (λ o. Tree ls o free w serial issued) e t)).1)

pub free_le : (ls : List Link) (head : Option ℕ) (free : ℕ) (w serial : ℕ → ℕ) (issued : ℕ) → Tree ls head free w serial issued → free ≤ 65536
free_le ls head free w serial issued t = omega (arith, t.whole, t.few)
