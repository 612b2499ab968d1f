-- The ways through an advance.
use Rattle.std.proofs.Common.{◌≡◌, ℕ, ◌+◌, ◌<◌, ◌≤◌, true, false, leb, List, [], ◌∷◌, length, get_or, Some, None, sum_by, Option, sym, refl, ap, ◌∙◌, subst, arith}
use mathlib.Core.Logic.{∥∥₁_map, ∥∥₁_elim}
use native.Mathlib.Bridge.{le_prop}
use Rattle.std.proofs.ByRecursion.{All-get_or}
use Rattle.std.proofs.lemmas.Bool.{le-leb, lt-leb}
use Rattle.refusals.specs.declared.Refusal.TheVariants.{WrongPhase, Unknown, NoNodesLeft, SourceDry}
use Rattle.sources.specs.Supplies.{Supply, after}
use Rattle.models.specs.Meanings.{Meaning}
use Rattle.filter.specs.declared.phase.Phase.{Phase}
use Rattle.filter.specs.declared.phase.Phase.TheVariants.{Empty, Level, Weighed}
use Rattle.filter.specs.Filters.{PathOf, Filter}
use Rattle.filter.specs.Uses.{opened, in_use, free}
use Rattle.filter.specs.Calls.{advance}
use Rattle.filter.specs.Refusals.{unless, is_level, refusal}
use Rattle.filter.specs.Steps.{longer, all_longer, granted}
use Rattle.filter.specs.Replies.{done, refused, nothing}
use Rattle.filter.proofs.Alls.{all_split}
use Rattle.filter.proofs.Agreements.{getD_longer}
use Rattle.filter.proofs.Grants.{level_not_weighed}
use Rattle.filter.proofs.Lengths.{lengths}
use Rattle.filter.proofs.Serials.{length-longer}
use Rattle.filter.proofs.Sounds.{sound_granted}
use Rattle.cloud.specs.declared.node.Node.{Node}
use Rattle.cloud.specs.Links.{links, states}
use Rattle.cloud.specs.Trees.{is_node, is_named, Tree}
use Rattle.cloud.specs.Tracks.{Track, named, Inverse, Moved, SomeMapAll}
use Rattle.cloud.specs.Representations.{View, Represents, SomeFilter}
use Rattle.cloud.specs.Promises.{Follows}
use Rattle.cloud.proofs.Links.{length-links}
use Rattle.cloud.proofs.Trees.{tree_same}
use Rattle.cloud.proofs.Stepping.{passed, failed, taken_refused, taken_granted, places_stay, particles}
use Rattle.cloud.proofs.Seeing.{seen_free}
use Rattle.cloud.proofs.Counting.{in_use_represented}
use Rattle.cloud.proofs.Keeping.{free_represented}

-- the cloud one round on, once its tree is so
abbrev pub advanced_view : {S : Type 0} → View S → List (Node S) → Option ℕ → ℕ → List ℕ → View S
advanced_view v nodes head free tips = record { nodes = nodes; head = head; free = free; tips = tips; weights = v.weights; holds = v.holds; phase = v.phase; round = v.round + 1; stamp = v.stamp }

pub not_level : (p : Phase) → (p ≡ Level → ⊥) → is_level p ≡ false
not_level Empty h = refl
not_level Level h = absurd (h refl)
not_level Weighed h = refl

-- a path has no more nodes than there are, so the round stays small
pub round_small : {S : Type 0} (v : View S) → SomeFilter v → (v.phase ≡ Empty → ⊥) → v.round + 1 ≤ 65536
round_small {S} v s living = ∥∥₁_elim s le_prop (λ (node, f, h).
    let n = particles node v f h living in
    let l : 0 < length f.paths = omega (arith, h.number) in
    let long : length (get_or f.paths 0 []) ≡ f.round + 1 = All-get_or (λ p. length p ≡ f.round + 1) f.paths 0 [] l h.sound.paths_as_long_as_round in
    let few : length (get_or f.paths 0 []) ≤ in_use f = All-get_or (λ p. length p ≤ in_use f) f.paths 0 [] l (all_split (λ p. length p ≤ in_use f) f.paths (opened f.places) (lengths S f h.sound)).0 in
    omega (arith, long, few, h.sound.in_use_within_room, h.room, h.round, h.tree.few, length-links v.nodes))

-- what moves ask of the tree
pub advance_map : {S : Type 0} (v : View S) → SomeFilter v → SomeMapAll (links v.nodes) v.head v.free v.tips
advance_map v s = ∥∥₁_map s (λ (node, f, h). (
  (λ k. sum_by (λ o. is_named o k) v.holds),
  h.serial,
  node,
  f.issued,
  tree_same (links v.nodes) v.head v.free (named v.tips v.holds) (λ k. sum_by (λ o. is_named o k) v.holds + sum_by (is_node k) v.tips) h.serial f.issued (λ k. omega arith) h.tree,
  h.inverse,
))

module _ {S : Type 0} (m : Meaning S) (c : ℕ) (v : View S) (q : Supply) where
  pub advance_wrong_phase : (v.phase ≡ Level → ⊥) → Follows m (advance c) (refused WrongPhase) v q v q
  advance_wrong_phase no_way node f h src = taken_refused m (advance c) v q node f WrongPhase h src
      (failed _ (ap is_level h.phase ∙ not_level v.phase no_way))

  module _ (level_now : v.phase ≡ Level) where
    past_phase : (node : ℕ → ℕ) (f : Filter S) → Represents node v f → refusal m f (advance c) ≡ unless (m.commands c) Unknown (unless (leb (length f.paths) (free f)) NoNodesLeft (unless (f.source.can (length f.paths)) SourceDry None))
    past_phase node f h = passed _ (ap is_level (h.phase ∙ level_now))

    pub advance_unknown : m.commands c ≡ false → Follows m (advance c) (refused Unknown) v q v q
    advance_unknown bad node f h src = taken_refused m (advance c) v q node f Unknown h src
        (past_phase node f h ∙ failed _ bad)

    module _ (known : m.commands c ≡ true) where
      past_command : (node : ℕ → ℕ) (f : Filter S) → Represents node v f → refusal m f (advance c) ≡ unless (leb (length f.paths) (free f)) NoNodesLeft (unless (f.source.can (length f.paths)) SourceDry None)
      past_command node f h = past_phase node f h ∙ passed _ known

      pub advance_no_nodes : v.free < length v.tips → Follows m (advance c) (refused NoNodesLeft) v q v q
      advance_no_nodes few node f h src =
          let b : leb (length f.paths) (free f) ≡ false = lt-leb (length f.paths) (free f) (omega (arith, free_represented node v f h, h.number)) in
          taken_refused m (advance c) v q node f NoNodesLeft h src (past_command node f h ∙ failed _ b)

      module _ (room : length v.tips ≤ v.free) where
        past_nodes : (node : ℕ → ℕ) (f : Filter S) → Represents node v f → f.source ≡ q → refusal m f (advance c) ≡ unless (q.can (length v.tips)) SourceDry None
        past_nodes node f h src =
            let b : leb (length f.paths) (free f) ≡ true = le-leb (length f.paths) (free f) (omega (arith, free_represented node v f h, h.number)) in
            past_command node f h ∙ passed _ b
            ∙ ap (λ (s : Supply). unless (s.can (length f.paths)) SourceDry None) src ∙ ap (λ k. unless (q.can k) SourceDry None) h.number

        pub advance_dry : q.can (length v.tips) ≡ false → Follows m (advance c) (refused SourceDry) v q v q
        advance_dry cannot node f h src = taken_refused m (advance c) v q node f SourceDry h src (past_nodes node f h src ∙ failed _ cannot)

        -- an advance that is granted: the nodes, their first free one, how many are free, and the tips
        module _ (can : q.can (length v.tips) ≡ true) (nodes : List (Node S)) (head : Option ℕ) (left : ℕ) (tips : List ℕ) (q' : Supply) (en : length tips ≡ length v.tips) (ef : left + length v.tips ≡ v.free) (eq : q' ≡ after (length v.tips) q)
            (law : (w serial node : ℕ → ℕ) (issued : ℕ) → Tree (links v.nodes) v.head v.free (λ k. w k + sum_by (is_node k) v.tips) serial issued → Inverse (links v.nodes) serial node → Moved (links v.nodes) (links nodes) (states v.nodes) (states nodes) head left v.tips tips (λ k s. m.move s c (q.to_come k)) (length v.tips) w serial node issued) where
          abbrev v' : View S
          v' = advanced_view v nodes head left tips

          module _ (node : ℕ → ℕ) (f : Filter S) (h : Represents node v f) (src : f.source ≡ q) where
            open_call : refusal m f (advance c) ≡ None
            open_call = past_nodes node f h src ∙ passed _ can

            held : ℕ → ℕ
            held k = sum_by (λ o. is_named o k) v.holds

            split : Tree (links v.nodes) v.head v.free (λ k. held k + sum_by (is_node k) v.tips) h.serial f.issued
            unfolding held
            split = tree_same (links v.nodes) v.head v.free (named v.tips v.holds) (λ k. sum_by (λ o. is_named o k) v.holds + sum_by (is_node k) v.tips) h.serial f.issued (λ k. omega arith) h.tree

            got : Moved (links v.nodes) (links v'.nodes) (states v.nodes) (states v'.nodes) v'.head v'.free v.tips v'.tips (λ k s. m.move s c (q.to_come k)) (length v.tips) held h.serial node f.issued
            got = law held h.serial node f.issued split h.inverse

            same_nodes : length v'.nodes ≡ length v.nodes
            same_nodes = sym (length-links v'.nodes) ∙ got.grown.size ∙ length-links v.nodes

            longer_track : (i : ℕ) (p : PathOf S) → i < length v.tips → Track (links v.nodes) (states v.nodes) h.serial (Some (get_or v.tips i 0)) p → Track (links v'.nodes) (states v'.nodes) got.grown.serial' (Some (get_or v'.tips i 0)) (longer m f c i p)
            longer_track i [] l r = absurd (let z : ◌≡◌ {A = ℕ} 0 1 = cc in omega arith)
            longer_track i (x ∷ p) l r =
                subst (λ (s : Supply). Track (links v'.nodes) (states v'.nodes) got.grown.serial' (Some (get_or v'.tips i 0)) (record { state = m.move x.state c (s.to_come i); serial = f.issued + i } ∷ x ∷ p)) (sym src) (got.longer i x p l r)

            path_at : (i : ℕ) → i < length v.tips → get_or (all_longer m f c 0 f.paths) i [] ≡ longer m f c i (get_or f.paths i [])
            path_at i l = getD_longer m f c 0 f.paths i (omega (arith, h.number)) ∙ ap (λ j. longer m f c j (get_or f.paths i [])) (let z : 0 + i ≡ i = omega arith in z)

            advanced : Represents got.grown.node' v' (granted m f (advance c) 0)
            unfolding held
            advanced = record {
              sound = sound_granted m f h.sound (advance c) 0 open_call;
              serial = got.grown.serial';
              tree = subst (λ k. Tree (links v'.nodes) v'.head v'.free (named v'.tips v'.holds) got.grown.serial' (f.issued + k)) (sym h.number)
                  (tree_same (links v'.nodes) v'.head v'.free (λ k. held k + sum_by (is_node k) v'.tips) (named v'.tips v'.holds) got.grown.serial' (f.issued + length v.tips)
                  (λ k. omega arith) got.grown.tree);
              inverse = got.grown.inverse;
              number = length-longer m f c 0 f.paths ∙ h.number ∙ sym en;
              paths_are = λ i l.
                  let l2 : i < length v.tips = omega arith in
                  subst (λ p. Track (links v'.nodes) (states v'.nodes) got.grown.serial' (Some (get_or v'.tips i 0)) p) (sym (path_at i l2)) (longer_track i (get_or f.paths i []) l2 (h.paths_are i l2));
              sixteen = h.sixteen;
              places_are = λ j l. places_stay (links v.nodes) (links nodes) (states v.nodes) (states nodes) h.serial got.grown.serial' v.holds f.places j (omega (arith, h.sixteen)) got.grown.stays (h.places_are j l);
              phase = sym level_now;
              round = ap (λ k. k + 1) h.round;
              stamp = h.stamp;
              room = h.room ∙ sym same_nodes;
              weights = λ e. absurd (level_not_weighed (sym level_now ∙ e));
            }

          pub advance_granted : (n : ℕ) → n ≡ length v.tips → Follows m (advance c) (done n 0 nothing) v q v' q'
          advance_granted n many node f h src =
              let g = (got node f h src).grown in
              let a = in_use_represented node v f h in
              let b = in_use_represented g.node' v' (granted m f (advance c) 0) (advanced node f h src) in
              let len = same_nodes node f h src in
              taken_granted m (advance c) v q node f n 0 nothing v' q' g.node' (open_call node f h src) tt (advanced node f h src)
              (ap (λ k. after k f.source) h.number ∙ ap (after (length v.tips)) src ∙ sym eq)
              (many ∙ sym h.number)
              (omega (arith, a, b, len, ef))
              refl
              (record { kept = g.older; new = λ s l l2. seen_free v.nodes (g.node' s) (g.fresh s l (omega (arith, h.number))) })
