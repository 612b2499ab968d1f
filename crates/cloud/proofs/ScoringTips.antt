-- Scores, one after another.
use Rattle.std.proofs.Common.{◌≡◌, ℕ, ◌+◌, ◌<◌, List, [], ◌∷◌, ◌++◌, length, get_or, sym, ap, ◌∙◌, subst, ⊎_elim, arith}
use Rattle.std.proofs.Math.Seq.{get_or-append_seam}
use Rattle.std.proofs.lemmas.List.{get_or_append_left}
use Rattle.std.proofs.lemmas.Bool.{cases_eq}

pub scores_more : {S : Type 0} (score : S → ℕ) (ss : List S) (tips ws ws' : List ℕ) (i v : ℕ) → ws' ≡ ws ++ v ∷ [] → i ≡ length ws → ((d : S) → v ≡ score (get_or ss (get_or tips i 0) d)) → ((k : ℕ) (d : S) → k < i → get_or ws k 0 ≡ score (get_or ss (get_or tips k 0) d)) → (k : ℕ) (d : S) → k < i + 1 → get_or ws' k 0 ≡ score (get_or ss (get_or tips k 0) d)
scores_more score ss tips ws ws' i v more l e inv k d lk =
    ap (λ us. get_or us k 0) more
    ∙ ⊎_elim
    (λ q. subst (λ x. get_or (ws ++ v ∷ []) x 0 ≡ score (get_or ss (get_or tips k 0) d)) (sym (q ∙ l)) (get_or-append_seam ws v [] 0 ∙ e d ∙ ap (λ x. score (get_or ss (get_or tips x 0) d)) (sym q)))
    (λ ne. get_or_append_left ws (v ∷ []) 0 k (omega arith) ∙ inv k d (omega arith))
    (cases_eq k i)
