-- The ways through a start.
use Rattle.std.proofs.Common.{◌≡◌, ℕ, ◌+◌, ◌<◌, ◌≤◌, true, false, leb, List, [], ◌∷◌, length, get_or, Some, None, sum_by, Option, sym, refl, ap, ◌∙◌, subst, arith}
use mathlib.Core.Logic.{∥∥₁_map}
use Rattle.std.proofs.lemmas.List.{nil_from_length}
use Rattle.std.proofs.lemmas.List.FromFn.{get_or-map-range_with_len, length-map-range_with_len}
use Rattle.std.proofs.lemmas.Bool.{and_from, le-leb, lt-leb}
use Rattle.refusals.specs.declared.Refusal.TheVariants.{WrongPhase, OutOfRange, NoNodesLeft, SourceDry}
use Rattle.resampling.specs.Calls.{in_range}
use Rattle.sources.specs.Supplies.{Supply, after}
use Rattle.models.specs.Meanings.{Meaning}
use Rattle.filter.specs.declared.phase.Phase.{Phase}
use Rattle.filter.specs.declared.phase.Phase.TheVariants.{Empty, Level, Weighed}
use Rattle.filter.specs.Filters.{Filter}
use Rattle.filter.specs.Uses.{free}
use Rattle.filter.specs.Calls.{start}
use Rattle.filter.specs.Refusals.{unless, is_empty, refusal}
use Rattle.filter.specs.Steps.{born, births, granted}
use Rattle.filter.specs.Replies.{done, refused, nothing}
use Rattle.filter.proofs.Grants.{level_not_weighed}
use Rattle.filter.proofs.Sounds.{sound_granted}
use Rattle.cloud.specs.declared.node.Node.{Node}
use Rattle.cloud.specs.Links.{links, states}
use Rattle.cloud.specs.Trees.{is_node, is_named, Tree}
use Rattle.cloud.specs.Tracks.{Track, named, Inverse, Born, SomeMap}
use Rattle.cloud.specs.Representations.{View, Represents, SomeFilter}
use Rattle.cloud.specs.Promises.{Follows}
use Rattle.cloud.proofs.Links.{length-links}
use Rattle.cloud.proofs.Trees.{tree_same}
use Rattle.cloud.proofs.Stepping.{passed, failed, taken_refused, taken_granted, places_stay, nobody}
use Rattle.cloud.proofs.Seeing.{seen_free}
use Rattle.cloud.proofs.Counting.{in_use_represented}
use Rattle.cloud.proofs.Keeping.{free_represented}

-- the cloud that has just begun with n particles, once its tree is so
abbrev pub started_view : {S : Type 0} → View S → List (Node S) → Option ℕ → ℕ → List ℕ → View S
started_view v nodes head free tips = record { nodes = nodes; head = head; free = free; tips = tips; weights = v.weights; holds = v.holds; phase = Level; round = 0; stamp = v.stamp }

not_empty : (p : Phase) → (p ≡ Empty → ⊥) → is_empty p ≡ false
not_empty Empty h = absurd (h refl)
not_empty Level h = refl
not_empty Weighed h = refl

-- what births ask of the tree
pub start_map : {S : Type 0} (v : View S) → SomeFilter v → SomeMap (links v.nodes) v.head v.free
start_map v s = ∥∥₁_map s (λ (node, f, h). (named v.tips v.holds, h.serial, node, f.issued, h.tree, h.inverse))

pub range_fits : (n : ℕ) → in_range n ≡ true → (1 ≤ n) × (n ≤ 256)
range_fits n e = grind (arith, e)

module _ {S : Type 0} (m : Meaning S) (n : ℕ) (v : View S) (q : Supply) where
  pub start_wrong_phase : (v.phase ≡ Empty → ⊥) → Follows m (start n) (refused WrongPhase) v q v q
  start_wrong_phase no_way node f h src = taken_refused m (start n) v q node f WrongPhase h src
      (failed _ (ap is_empty h.phase ∙ not_empty v.phase no_way))

  module _ (empty_now : v.phase ≡ Empty) where
    past_phase : (node : ℕ → ℕ) (f : Filter S) → Represents node v f → refusal m f (start n) ≡ unless (in_range n) OutOfRange (unless (leb n (free f)) NoNodesLeft (unless (f.source.can n) SourceDry None))
    past_phase node f h = passed _ (ap is_empty (h.phase ∙ empty_now))

    pub start_out_of_range : in_range n ≡ false → Follows m (start n) (refused OutOfRange) v q v q
    start_out_of_range bad node f h src =
        taken_refused m (start n) v q node f OutOfRange h src (past_phase node f h ∙ failed _ bad)

    module _ (low : 1 ≤ n) (high : n ≤ 256) where
      past_range : (node : ℕ → ℕ) (f : Filter S) → Represents node v f → refusal m f (start n) ≡ unless (leb n (free f)) NoNodesLeft (unless (f.source.can n) SourceDry None)
      past_range node f h =
          past_phase node f h ∙ passed _ (and_from (leb 1 n) (leb n 256) (le-leb 1 n low) (le-leb n 256 high))

      pub start_no_nodes : v.free < n → Follows m (start n) (refused NoNodesLeft) v q v q
      start_no_nodes few node f h src =
          let b : leb n (free f) ≡ false = lt-leb n (free f) (omega (arith, free_represented node v f h)) in
          taken_refused m (start n) v q node f NoNodesLeft h src (past_range node f h ∙ failed _ b)

      module _ (room : n ≤ v.free) where
        past_nodes : (node : ℕ → ℕ) (f : Filter S) → Represents node v f → f.source ≡ q → refusal m f (start n) ≡ unless (q.can n) SourceDry None
        past_nodes node f h src =
            let b : leb n (free f) ≡ true = le-leb n (free f) (omega (arith, free_represented node v f h)) in
            past_range node f h ∙ passed _ b ∙ ap (λ (s : Supply). unless (s.can n) SourceDry None) src

        pub start_dry : q.can n ≡ false → Follows m (start n) (refused SourceDry) v q v q
        start_dry cannot node f h src = taken_refused m (start n) v q node f SourceDry h src (past_nodes node f h src ∙ failed _ cannot)

        -- a start that is granted: the nodes, their first free one, how many are free, and the tips
        module _ (can : q.can n ≡ true) (nodes : List (Node S)) (head : Option ℕ) (left : ℕ) (tips : List ℕ) (q' : Supply) (en : length tips ≡ n) (ef : left + n ≡ v.free) (eq : q' ≡ after n q)
            (law : (w serial node : ℕ → ℕ) (issued : ℕ) → Tree (links v.nodes) v.head v.free w serial issued → Inverse (links v.nodes) serial node → Born (links v.nodes) (links nodes) (states v.nodes) (states nodes) head left tips (λ k. m.birth (q.to_come k)) w serial node issued) where
          abbrev v' : View S
          v' = started_view v nodes head left tips

          module _ (node : ℕ → ℕ) (f : Filter S) (h : Represents node v f) (src : f.source ≡ q) where
            open_call : refusal m f (start n) ≡ None
            open_call = past_nodes node f h src ∙ passed _ can

            held : ℕ → ℕ
            held k = sum_by (λ o. is_named o k) v.holds

            bare : Tree (links v.nodes) v.head v.free held h.serial f.issued
            unfolding held
            bare = tree_same (links v.nodes) v.head v.free (named v.tips v.holds) (λ k. sum_by (λ o. is_named o k) v.holds) h.serial f.issued
                (λ k. let z : sum_by (is_node k) v.tips ≡ 0 = ap (sum_by (is_node k)) (nil_from_length v.tips (nobody node v f h empty_now)) in omega (arith, z)) h.tree

            got : Born (links v.nodes) (links v'.nodes) (states v.nodes) (states v'.nodes) v'.head v'.free v'.tips (λ k. m.birth (q.to_come k)) held h.serial node f.issued
            got = law held h.serial node f.issued bare h.inverse

            same_nodes : length v'.nodes ≡ length v.nodes
            same_nodes = sym (length-links v'.nodes) ∙ got.grown.size ∙ length-links v.nodes

            path_at : (i : ℕ) → i < n → get_or (births m f n) i [] ≡ record { state = m.birth (q.to_come i); serial = f.issued + i } ∷ []
            path_at i l = get_or-map-range_with_len (born m f) 0 n i i [] l (omega arith) ∙ ap (λ (s : Supply). record { state = m.birth (s.to_come i); serial = f.issued + i } ∷ []) src

            started : Represents got.grown.node' v' (granted m f (start n) 0)
            unfolding held
            started = record {
              sound = sound_granted m f h.sound (start n) 0 open_call;
              serial = got.grown.serial';
              tree = subst (λ k. Tree (links v'.nodes) v'.head v'.free (named v'.tips v'.holds) got.grown.serial' (f.issued + k)) en
                  (tree_same (links v'.nodes) v'.head v'.free (λ k. held k + sum_by (is_node k) v'.tips) (named v'.tips v'.holds) got.grown.serial' (f.issued + length v'.tips)
                  (λ k. omega arith) got.grown.tree);
              inverse = got.grown.inverse;
              number = length-map-range_with_len (born m f) 0 n ∙ sym en;
              paths_are = λ i l.
                  let l2 : i < n = omega arith in
                  subst (λ p. Track (links v'.nodes) (states v'.nodes) got.grown.serial' (Some (get_or v'.tips i 0)) p) (sym (path_at i l2)) (got.born i l);
              sixteen = h.sixteen;
              places_are = λ j l. places_stay (links v.nodes) (links nodes) (states v.nodes) (states nodes) h.serial got.grown.serial' v.holds f.places j (omega (arith, h.sixteen)) got.grown.stays (h.places_are j l);
              phase = refl;
              round = refl;
              stamp = h.stamp;
              room = h.room ∙ sym same_nodes;
              weights = λ e. absurd (level_not_weighed e);
            }

          pub start_granted : Follows m (start n) (done n 0 nothing) v q v' q'
          start_granted node f h src =
              let g = (got node f h src).grown in
              let a = in_use_represented node v f h in
              let b = in_use_represented g.node' v' (granted m f (start n) 0) (started node f h src) in
              let len = same_nodes node f h src in
              taken_granted m (start n) v q node f n 0 nothing v' q' g.node' (open_call node f h src) tt (started node f h src) (ap (after n) src ∙ sym eq) refl
              (omega (arith, a, b, len, ef))
              refl
              (record { kept = g.older; new = λ s l l2. seen_free v.nodes (g.node' s) (g.fresh s l (omega (arith, en))) })

-- the reply tells the number itself
pub issued_as : {S : Type 0} {m : Meaning S} {n k : ℕ} {v v' : View S} {q q' : Supply} → k ≡ n → Follows m (start n) (done n 0 nothing) v q v' q' → Follows m (start n) (done k 0 nothing) v q v' q'
issued_as {S} {m} {n} {k} {v} {v'} {q} {q'} e go = subst (λ j. Follows m (start n) (done j 0 nothing) v q v' q') (sym e) go
