-- The ways through a resampling.
use Rattle.std.proofs.Common.{◌≡◌, ℕ, ◌+◌, ◌^◌, ◌<◌, ◌≤◌, Bool, true, false, cond, ltb, leb, List, [], ◌++◌, map, length, get_or, take, drop, Some, None, Ok, Err, sum_by, Option, Result, sym, refl, ap, ◌∙◌, subst, arith}
use mathlib.Core.Logic.{∥∥₁_map}
use Rattle.std.proofs.lemmas.List.{length-map, get_or-map}
use Rattle.std.proofs.Math.Seq.{take-append_seam}
use Rattle.std.proofs.lemmas.Bool.{lt-ltb, le-ltb, ltb-false, le-leb, and_from, cond-true}
use Rattle.refusals.specs.declared.Refusal.{Refusal}
use Rattle.refusals.specs.declared.Refusal.TheVariants.{WrongPhase, SourceDry, AllZero}
use Rattle.resampling.specs.Marks.{total, offset, parents}
use Rattle.resampling.specs.Calls.{in_range, total_of, parents_reply, row_after}
use Rattle.resampling.proofs.Owners.{offset_below}
use Rattle.resampling.proofs.Replies.{parents_granted}
use Rattle.resampling.proofs.Shares.{systematic}
use Rattle.sources.specs.Supplies.{Supply, after}
use Rattle.models.specs.Meanings.{Meaning}
use Rattle.filter.specs.declared.phase.Phase.{Phase}
use Rattle.filter.specs.declared.phase.Phase.TheVariants.{Empty, Level, Weighed}
use Rattle.filter.specs.Filters.{PathOf, Filter}
use Rattle.filter.specs.Calls.{resample}
use Rattle.filter.specs.Refusals.{unless, is_weighed, refusal}
use Rattle.filter.specs.Steps.{path, parents_now, granted}
use Rattle.filter.specs.Replies.{done, refused, nothing}
use Rattle.filter.proofs.Grants.{level_not_weighed, weighed_not_empty}
use Rattle.filter.proofs.Sounds.{sound_granted}
use Rattle.cloud.specs.declared.node.Node.{Node}
use Rattle.cloud.specs.Links.{links, states, Keeps}
use Rattle.cloud.specs.Trees.{is_node, is_named, Tree}
use Rattle.cloud.specs.Tracks.{Track, named, SomeTreeFew}
use Rattle.cloud.specs.Representations.{View, Represents, SomeFilter}
use Rattle.cloud.specs.Promises.{Taken, Follows}
use Rattle.cloud.proofs.Trees.{tree_same}
use Rattle.cloud.proofs.Naming.{place_named, particle_named, few_by, is_named_le}
use Rattle.cloud.proofs.Stepping.{passed, failed, taken_refused, taken_granted, stay_all, alike_stays, particles, each_weighed}
use Rattle.cloud.proofs.Keeping.{freed_by, same_nodes, same_links, track_on}

-- the cloud of the children, once its tree is so
abbrev pub resampled_view : {S : Type 0} → View S → List (Node S) → Option ℕ → ℕ → List ℕ → View S
resampled_view v nodes head free tips = record { nodes = nodes; head = head; free = free; tips = tips; weights = v.weights; holds = v.holds; phase = Level; round = v.round; stamp = v.stamp }

not_weighed : (p : Phase) → (p ≡ Weighed → ⊥) → is_weighed p ≡ false
not_weighed Empty h = refl
not_weighed Level h = refl
not_weighed Weighed h = absurd (h refl)

-- the parents that the number r gives the weights
pub record Written (weights : List ℕ) (r : ℕ) (ps : List ℕ) : Type 0 where
  pub positive : 0 < total weights
  pub are : ps ≡ parents weights (offset r (total weights))
  pub count : length ps ≡ length weights
  pub below : (k : ℕ) → k < length ps → get_or ps k 0 < length weights

-- by the reply of the parents, and what they left in a row
pub written : (weights old row : List ℕ) (r n room : ℕ) (replied : Result ℕ Refusal) → r < 2 ^ 32 → replied ≡ parents_reply weights room → replied ≡ Ok n
    → row ≡ row_after replied (parents weights (offset r (total weights))) old → Written weights r (take n row)
written weights old row r n room replied small reply_is granted row_is =
    let got = parents_granted weights room n (sym granted ∙ reply_is) in
    let law = systematic weights (offset r (total weights)) (offset_below r (total weights) got.1 small) in
    let len : n ≡ length (parents weights (offset r (total weights))) = got.2 ∙ sym law.count in
    let are : take n row ≡ parents weights (offset r (total weights))
    = ap (take n) (row_is ∙ ap (λ x. row_after x (parents weights (offset r (total weights))) old) granted)
    ∙ ap (λ k. take k (parents weights (offset r (total weights)) ++ drop n old)) len ∙ take-append_seam (parents weights (offset r (total weights))) (drop n old) in
    record {
      positive = got.1;
      are = are;
      count = ap length are ∙ law.count;
      below = λ k l. subst (λ us. get_or us k 0 < length weights) (sym are) (law.marked k (omega (arith, ap length are, law.count))).within;
    }

-- of 1 to 256 weights the total is refused only where all are 0
all_zero_only : (ws : List ℕ) (e : Refusal) → 1 ≤ length ws → length ws ≤ 256 → total_of ws ≡ Err e → (e ≡ AllZero) × (total ws ≡ 0)
all_zero_only ws e low high r =
    let ranged : in_range (length ws) ≡ true = and_from (leb 1 (length ws)) (leb (length ws) 256) (le-leb 1 (length ws) low) (le-leb (length ws) 256 high) in
    go (ltb 0 (total ws)) refl (sym (cond-true (in_range (length ws)) _ _ ranged) ∙ r)
  where
    go : (b : Bool) → ltb 0 (total ws) ≡ b → cond (ltb 0 (total ws)) (Ok (total ws)) (Err AllZero) ≡ Err e → (e ≡ AllZero) × (total ws ≡ 0)
    go true q z = absurd (let y : Ok (total ws) ≡ Err e = sym (ap (λ t. cond t (Ok (total ws)) (Err AllZero)) q) ∙ z in let u : ◌≡◌ {A = ℕ} 0 1 = cc in omega arith)
    go false q z =
        let y : Err AllZero ≡ Err e = sym (ap (λ t. cond t (Ok (total ws)) (Err AllZero)) q) ∙ z in
        (cc, omega (arith, ltb-false 0 (total ws) q))

-- what resettling asks of the tree
pub resample_few : {S : Type 0} (v : View S) → SomeFilter v → SomeTreeFew (links v.nodes) v.head v.free v.tips
resample_few v s = ∥∥₁_map s (λ (node, f, h). (
  (λ k. sum_by (λ o. is_named o k) v.holds),
  h.serial,
  f.issued,
  tree_same (links v.nodes) v.head v.free (named v.tips v.holds) (λ k. sum_by (λ o. is_named o k) v.holds + sum_by (is_node k) v.tips) h.serial f.issued (λ k. omega arith) h.tree,
  λ k. let b = few_by (λ o. is_named o k) None (λ o. is_named_le o k) v.holds in omega (arith, b, h.sixteen),
))

module _ {S : Type 0} (m : Meaning S) (v : View S) (q : Supply) where
  pub resample_wrong_phase : (v.phase ≡ Weighed → ⊥) → Follows m resample (refused WrongPhase) v q v q
  resample_wrong_phase no_way node f h src = taken_refused m resample v q node f WrongPhase h src
      (failed _ (ap is_weighed h.phase ∙ not_weighed v.phase no_way))

  module _ (weighed_now : v.phase ≡ Weighed) where
    past_phase : (node : ℕ → ℕ) (f : Filter S) → Represents node v f → f.source ≡ q → refusal m f resample ≡ unless (q.can 1) SourceDry (unless (ltb 0 (total v.weights)) AllZero None)
    past_phase node f h src =
        passed _ (ap is_weighed (h.phase ∙ weighed_now))
        ∙ ap (λ (s : Supply). unless (s.can 1) SourceDry (unless (ltb 0 (total f.weights)) AllZero None)) src
        ∙ ap (λ ws. unless (q.can 1) SourceDry (unless (ltb 0 (total ws)) AllZero None)) (h.weights weighed_now)

    pub resample_dry : q.can 1 ≡ false → Follows m resample (refused SourceDry) v q v q
    resample_dry cannot node f h src = taken_refused m resample v q node f SourceDry h src (past_phase node f h src ∙ failed _ cannot)

    module _ (can : q.can 1 ≡ true) where
      past_source : (node : ℕ → ℕ) (f : Filter S) → Represents node v f → f.source ≡ q → refusal m f resample ≡ unless (ltb 0 (total v.weights)) AllZero None
      past_source node f h src = past_phase node f h src ∙ passed _ can

      pub resample_all_zero : total v.weights ≡ 0 → Follows m resample (refused AllZero) v q v q
      resample_all_zero z node f h src = taken_refused m resample v q node f AllZero h src (past_source node f h src ∙ failed _ (le-ltb 0 (total v.weights) (omega arith)))

      -- the total is refused only where all weights are 0, as there are 1 to 256 particles
      pub resample_no_total : (e : Refusal) → total_of v.weights ≡ Err e → Follows m resample (refused e) v q v q
      resample_no_total e r node f h src =
          let n = particles node v f h (λ x. weighed_not_empty (sym weighed_now ∙ x)) in
          let len : length v.weights ≡ length v.tips = each_weighed v ∣ (node, f, h) ∣₁ weighed_now in
          let z = all_zero_only v.weights e (omega (arith, n.0)) (omega (arith, n.1)) r in
          subst (λ x. Taken m resample (refused x) v v q node f) (sym z.0) (resample_all_zero z.1 node f h src)

      -- a resampling that is granted: the parents, the nodes, their first free one, how many are free, and the tips
      module _ (ps : List ℕ) (got : Written v.weights (q.to_come 0) ps) (nodes : List (Node S)) (head : Option ℕ) (left : ℕ) (tips : List ℕ) (q' : Supply) (freed : ℕ) (ef : left ≡ v.free + freed) (eq : q' ≡ after 1 q)
          (kept : Keeps v.nodes nodes) (children : tips ≡ map (λ k. get_or v.tips k 0) ps)
          (law : (w serial : ℕ → ℕ) (issued : ℕ) → Tree (links v.nodes) v.head v.free (λ k. w k + sum_by (is_node k) v.tips) serial issued → Tree (links nodes) head left (λ k. w k + sum_by (is_node k) tips) serial issued) where
        abbrev v' : View S
        v' = resampled_view v nodes head left tips

        module _ (node : ℕ → ℕ) (f : Filter S) (h : Represents node v f) (src : f.source ≡ q) where
          open_call : refusal m f resample ≡ None
          open_call = past_source node f h src ∙ passed _ (lt-ltb 0 (total v.weights) got.positive)

          ps_are : parents_now f ≡ ps
          ps_are = ap (λ (s : Supply). parents f.weights (offset (s.to_come 0) (total f.weights))) src ∙ ap (λ us. parents us (offset (q.to_come 0) (total us))) (h.weights weighed_now) ∙ sym got.are

          tips_len : length v'.tips ≡ length ps
          tips_len = ap length children ∙ length-map ps (λ k. get_or v.tips k 0)

          parent_below : (i : ℕ) → i < length ps → get_or ps i 0 < length v.tips
          parent_below i l = omega (arith, got.below i l, each_weighed v ∣ (node, f, h) ∣₁ weighed_now)

          tip_at : (i : ℕ) → i < length ps → get_or v'.tips i 0 ≡ get_or v.tips (get_or ps i 0) 0
          tip_at i l = ap (λ us. get_or us i 0) children ∙ get_or-map (λ k. get_or v.tips k 0) ps i 0 0 l

          new_tree : Tree (links v'.nodes) v'.head v'.free (named v'.tips v'.holds) h.serial f.issued
          new_tree = tree_same (links v'.nodes) v'.head v'.free (λ k. sum_by (λ o. is_named o k) v.holds + sum_by (is_node k) v'.tips) (named v'.tips v'.holds) h.serial f.issued
              (λ k. omega arith)
              (law (λ k. sum_by (λ o. is_named o k) v.holds) h.serial f.issued
              (tree_same (links v.nodes) v.head v.free (named v.tips v.holds) (λ k. sum_by (λ o. is_named o k) v.holds + sum_by (is_node k) v.tips) h.serial f.issued (λ k. omega arith) h.tree))

          on : (k : ℕ) (p : PathOf S) → 0 < named v.tips v.holds k → 0 < named v'.tips v'.holds k → Track (links v.nodes) (states v.nodes) h.serial (Some k) p → Track (links v'.nodes) (states v'.nodes) h.serial (Some k) p
          on k p a b r = track_on v v' kept h.serial f.issued k p h.tree new_tree a b r

          path_at : (i : ℕ) → i < length ps → get_or (map (path f) (parents_now f)) i [] ≡ get_or f.paths (get_or ps i 0) []
          path_at i l = ap (λ us. get_or (map (path f) us) i []) ps_are ∙ get_or-map (path f) ps i 0 [] l

          resampled : Represents node v' (granted m f resample 0)
          resampled = record {
            sound = sound_granted m f h.sound resample 0 open_call;
            serial = h.serial;
            tree = new_tree;
            inverse = λ k l c. h.inverse k (omega (arith, same_links v v' kept)) (kept.same_parents k c).0;
            number = length-map (parents_now f) (path f) ∙ ap length ps_are ∙ sym tips_len;
            paths_are = λ i l.
                let l2 : i < length ps = omega (arith, tips_len) in
                let a = particle_named v.tips v.holds (get_or ps i 0) (parent_below i l2) in
                let b : 0 < named v'.tips v'.holds (get_or v.tips (get_or ps i 0) 0)
                = subst (λ x. 0 < named v'.tips v'.holds x) (tip_at i l2) (particle_named v'.tips v'.holds i l) in
                subst (λ x. Track (links v'.nodes) (states v'.nodes) h.serial (Some x) (get_or (map (path f) (parents_now f)) i [])) (sym (tip_at i l2))
                (subst (λ x. Track (links v'.nodes) (states v'.nodes) h.serial (Some (get_or v.tips (get_or ps i 0) 0)) x) (sym (path_at i l2))
                (on (get_or v.tips (get_or ps i 0) 0) (get_or f.paths (get_or ps i 0) []) a b (h.paths_are (get_or ps i 0) (parent_below i l2))));
            sixteen = h.sixteen;
            places_are = λ j l.
                let l2 : j < length v.holds = omega (arith, h.sixteen) in
                alike_stays (links v.nodes) (links v'.nodes) (states v.nodes) (states v'.nodes) h.serial h.serial (get_or v.holds j None) (get_or f.places j None)
                (λ k p e r. on k p (place_named v.tips v.holds j k l2 e) (place_named tips v.holds j k l2 e) r)
                (h.places_are j l);
            phase = refl;
            round = h.round;
            stamp = h.stamp;
            room = h.room ∙ sym (same_nodes v v' kept);
            weights = λ e. absurd (level_not_weighed e);
          }

        pub resample_granted : Follows m resample (done 0 freed nothing) v q v' q'
        resample_granted node f h src =
            taken_granted m resample v q node f 0 freed nothing v' q' node (open_call node f h src) tt (resampled node f h src) (ap (after 1) src ∙ sym eq) refl
            (freed_by node node v v' f (granted m f resample 0) freed h (resampled node f h src) (same_nodes v v' kept) ef)
            refl (stay_all v node f.issued)
