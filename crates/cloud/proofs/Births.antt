-- Nodes issued with no parent, one after another.
use Rattle.std.proofs.Common.{◌≡◌, ℕ, ◌+◌, ◌-◌, ◌<◌, ◌≤◌, List, [], ◌∷◌, ◌++◌, length, get_or, set, Some, None, sum_by, Option, sym, refl, subst, ⊎_elim, arith}
use mathlib.Core.Logic.{∥∥₁_map}
use Rattle.std.proofs.Math.Seq.{get_or-append_seam}
use Rattle.std.proofs.lemmas.List.{length-append, get_or_append_left}
use Rattle.std.proofs.lemmas.List.Sums.{get_or-le-sum_by, sum_by_push}
use Rattle.std.proofs.lemmas.Bool.{cases_eq}
use Rattle.cloud.specs.Links.{Link, linked, link_at}
use Rattle.cloud.specs.Trees.{is_node, Tree, SomeTree, with_serial}
use Rattle.cloud.specs.Tracks.{Track, IsNamed, Inverse, Born, SomeMap}
use Rattle.cloud.proofs.Tallies.{is_node_same}
use Rattle.cloud.proofs.Trees.{tree_same}
use Rattle.cloud.proofs.Growths.{path_on, path_longer, grown_more, grown_none}

-- nodes issued with nothing before them
module _ {S : Type 0} (ls ms : List Link) (ss ts : List S) (free : ℕ) (row : List ℕ) (news : ℕ → S) (nd : ℕ) (state : S) (w serial node : ℕ → ℕ) (issued : ℕ) (lt : length ts ≡ length ms) (new : state ≡ news (length row)) (g : Born ls ms ss ts (Some nd) free row news w serial node issued) where
  names : ℕ → ℕ
  names k = w k + sum_by (is_node k) row

  same : (k : ℕ) → w k + sum_by (is_node k) row ≡ names k + 0
  unfolding names
  same k = omega arith

  rest : (k : ℕ) → w k ≤ names k
  unfolding names
  rest k = omega arith

  named_tip : (j : ℕ) → j < length row → IsNamed names (Some (get_or row j 0))
  unfolding names
  named_tip j l r e =
      let z : get_or row j 0 ≡ r = cc in
      let o : is_node r (get_or row j 0) ≡ 1 = subst (λ x. is_node r x ≡ 1) (sym z) (is_node_same r) in
      omega (arith, get_or-le-sum_by (is_node r) row j 0 l, o)

  pushed : (k : ℕ) → w k + sum_by (is_node k) (row ++ nd ∷ []) ≡ names k + is_node k nd
  unfolding names
  pushed k = omega (arith, sum_by_push (is_node k) row nd)

  one_more : length (row ++ nd ∷ []) ≡ length row + 1
  one_more = length-append row (nd ∷ [])

  pub born_more : Born ls (set ms nd (linked 1 None)) ss (set ts nd state) (link_at ms nd).parent (free - 1) (row ++ nd ∷ []) news w serial node issued
  unfolding grown_more
  born_more = record {
    grown = grown_more ls ms ss ts free (length row) nd None state (λ k. w k + sum_by (is_node k) row) names w serial node issued lt same rest g.grown (λ k. w k + sum_by (is_node k) (row ++ nd ∷ [])) (length (row ++ nd ∷ [])) pushed one_more;
    born = λ j l. ⊎_elim
        (λ e.
        let r = path_longer ls ms ss ts free (length row) nd None state (λ k. w k + sum_by (is_node k) row) names w serial node issued lt same rest g.grown [] refl in
        let n2 : nd ≡ get_or (row ++ nd ∷ []) j 0 = subst (λ x. nd ≡ get_or (row ++ nd ∷ []) x 0) (sym e) (sym (get_or-append_seam row nd [] 0)) in
        subst (λ x. Track (set ms nd (linked 1 None)) (set ts nd state) (with_serial g.grown.serial' nd (issued + length row)) (Some (get_or (row ++ nd ∷ []) j 0)) (record { state = news x; serial = issued + x } ∷ [])) (sym e)
        (subst (λ x. Track (set ms nd (linked 1 None)) (set ts nd state) (with_serial g.grown.serial' nd (issued + length row)) (Some x) (record { state = news (length row); serial = issued + length row } ∷ [])) n2
        (subst (λ x. Track (set ms nd (linked 1 None)) (set ts nd state) (with_serial g.grown.serial' nd (issued + length row)) (Some nd) (record { state = x; serial = issued + length row } ∷ [])) new r)))
        (λ ne.
        let l2 : j < length row = omega (arith, one_more) in
        subst (λ x. Track (set ms nd (linked 1 None)) (set ts nd state) (with_serial g.grown.serial' nd (issued + length row)) (Some x) (record { state = news j; serial = issued + j } ∷ [])) (sym (get_or_append_left row (nd ∷ []) 0 j l2))
        (path_on ls ms ss ts free (length row) nd None state (λ k. w k + sum_by (is_node k) row) names w serial node issued lt same rest g.grown (Some (get_or row j 0)) (record { state = news j; serial = issued + j } ∷ []) (named_tip j l2) (g.born j l2)))
        (cases_eq j (length row));
  }

pub born_none : {S : Type 0} (ls : List Link) (ss : List S) (head : Option ℕ) (free : ℕ) (row : List ℕ) (news : ℕ → S) (w serial node : ℕ → ℕ) (issued : ℕ) → row ≡ [] → Tree ls head free w serial issued → Inverse ls serial node → Born ls ls ss ss head free row news w serial node issued
born_none ls ss head free row news w serial node issued e t inv = subst (λ us. Born ls ls ss ss head free us news w serial node issued) (sym e) (record {
  grown = grown_none ls ss head free (λ k. w k + sum_by (is_node k) []) w serial node issued (tree_same ls head free w (λ k. w k + sum_by (is_node k) []) serial issued (λ k. omega arith) t) inv;
  born = λ j l. absurd (omega arith);
})

pub born_step : {S : Type 0} (ls ms ms' : List Link) (ss ts ts' : List S) (head head' : Option ℕ) (free free' : ℕ) (row row' : List ℕ) (news : ℕ → S) (nd : ℕ) (state : S) (w serial node : ℕ → ℕ) (issued : ℕ) → row' ≡ row ++ nd ∷ [] → length ts ≡ length ms → state ≡ news (length row) → head ≡ Some nd → head' ≡ (link_at ms nd).parent → ms' ≡ set ms nd (linked 1 None) → ts' ≡ set ts nd state → free' + 1 ≡ free → Born ls ms ss ts head free row news w serial node issued → Born ls ms' ss ts' head' free' row' news w serial node issued
born_step ls ms ms' ss ts ts' head head' free free' row row' news nd state w serial node issued er lt new eh eh' em et ef g =
    let f : free - 1 ≡ free' = omega arith in
    let r = born_more ls ms ss ts free row news nd state w serial node issued lt new (subst (λ o. Born ls ms ss ts o free row news w serial node issued) eh g) in
    subst (λ a. Born ls a ss ts' head' free' row' news w serial node issued) (sym em)
    (subst (λ a. Born ls (set ms nd (linked 1 None)) ss a head' free' row' news w serial node issued) (sym et)
    (subst (λ a. Born ls (set ms nd (linked 1 None)) ss (set ts nd state) a free' row' news w serial node issued) (sym eh')
    (subst (λ a. Born ls (set ms nd (linked 1 None)) ss (set ts nd state) (link_at ms nd).parent a row' news w serial node issued) f
    (subst (λ a. Born ls (set ms nd (linked 1 None)) ss (set ts nd state) (link_at ms nd).parent (free - 1) a news w serial node issued) (sym er) r))))

pub born_some_tree : {S : Type 0} (ls ms : List Link) (ss ts : List S) (head head' : Option ℕ) (free free' : ℕ) (row : List ℕ) (news : ℕ → S) → ((w serial node : ℕ → ℕ) (issued : ℕ) → Tree ls head free w serial issued → Inverse ls serial node → Born ls ms ss ts head' free' row news w serial node issued) → SomeMap ls head free → SomeTree ms head' free'
born_some_tree ls ms ss ts head head' free free' row news inv r = ∥∥₁_map r (λ (w, serial, node, issued, t, v). let g = inv w serial node issued t v in ((λ k. w k + sum_by (is_node k) row), g.grown.serial', issued + length row, g.grown.tree))
