-- The pieces between separators, joined again. Assumes nothing.
use Rattle.std.proofs.Common.{◌≡◌, ℕ, ◌<◌, Bool, true, false, cond, eqb, ◌⊎◌, List, [], ◌∷◌, ◌++◌, length, sym, refl, ap, ◌∙◌, inl, inr, append_assoc, not-suc-le-zero, arith, eq-eqb, ne_eqb, eqb-true}
use borrow.Author.Tests.{eqb-false}
use Rattle.std.specs.List.{AllByRecursion, onto_first}
use Rattle.std.proofs.lemmas.List.{append-nil}
use Rattle.std.proofs.lemmas.List.Splits.{join_with_byte-slice_split}
use Rattle.fields.specs.Cuts.{pieces, fields, lines}
use Rattle.fields.specs.Laws.{join_by, end_by, Lacks, FieldsJoin, FieldsAlone, LinesJoin, LinesAlone}
use Rattle.fields.proofs.Cutting.{split_is_fields, lines_cut}

-- a piece that lacks c, and c after it, before the rest
next_piece : (end : List (List ℕ)) (c : ℕ) (p rest : List ℕ) → Lacks c p → pieces end c (p ++ (c ∷ rest)) ≡ p ∷ pieces end c rest
next_piece end c [] rest l = ap (λ t. cond t ([] ∷ pieces end c rest) (onto_first c (pieces end c rest))) (eq-eqb c c refl)
next_piece end c (b ∷ bs) rest l = ap (λ t. cond t ([] ∷ pieces end c (bs ++ (c ∷ rest))) (onto_first b (pieces end c (bs ++ (c ∷ rest))))) (ne_eqb b c l.0) ∙ ap (onto_first b) (next_piece end c bs rest l.1)

-- a line without a comma is one field
last_field : (p : List ℕ) → Lacks 44 p → fields p ≡ p ∷ []
last_field [] l = refl
last_field (b ∷ bs) l = ap (λ t. cond t ([] ∷ fields bs) (onto_first b (fields bs))) (ne_eqb b 44 l.0) ∙ ap (onto_first b) (last_field bs l.1)

-- bytes without a line feed are one line
last_line : (p : List ℕ) → Lacks 10 p → 0 < length p → lines p ≡ p ∷ []
last_line [] l some = absurd (not-suc-le-zero some)
last_line (b ∷ []) l some = ap (λ t. cond t ([] ∷ []) (onto_first b [])) (ne_eqb b 10 l.0)
last_line (b ∷ x ∷ xs) l some = ap (λ t. cond t ([] ∷ lines (x ∷ xs)) (onto_first b (lines (x ∷ xs)))) (ne_eqb b 10 l.0) ∙ ap (onto_first b) (last_line (x ∷ xs) l.1 (omega arith))

lacks_onto : (c b : ℕ) (ps : List (List ℕ)) → (b ≡ c → ⊥) → AllByRecursion (Lacks c) ps → AllByRecursion (Lacks c) (onto_first b ps)
lacks_onto c b [] ne l = ((ne, tt), tt)
lacks_onto c b (p ∷ ps) ne l = ((ne, l.0), l.1)

pieces_lack : (end : List (List ℕ)) (c : ℕ) (bs : List ℕ) → AllByRecursion (Lacks c) end → AllByRecursion (Lacks c) (pieces end c bs)
pieces_lack end c [] l = l
pieces_lack end c (b ∷ bs) l = go (eqb b c) refl (pieces_lack end c bs l)
  where
    go : (t : Bool) → eqb b c ≡ t → AllByRecursion (Lacks c) (pieces end c bs) → AllByRecursion (Lacks c) (cond t ([] ∷ pieces end c bs) (onto_first b (pieces end c bs)))
    go true e rest = (tt, rest)
    go false e rest = lacks_onto c b (pieces end c bs) (eqb-false b c e) rest

pub fields_join : FieldsJoin
fields_join bs = (ap (join_by 44) (sym (split_is_fields bs)) ∙ join_with_byte-slice_split 44 bs, pieces_lack ([] ∷ []) 44 bs (tt, tt))

pub fields_alone : FieldsAlone
fields_alone p [] l = last_field p l.0
fields_alone p (q ∷ ps) l = next_piece ([] ∷ []) 44 p (join_by 44 (q ∷ ps)) l.0 ∙ ap (λ fs. p ∷ fs) (fields_alone q ps l.1)

-- what lines are ended of
Ended : List ℕ → List (List ℕ) → Type 0
Ended bs ls = (end_by 10 ls ≡ bs) ⊎ (end_by 10 ls ≡ bs ++ (10 ∷ []))

ended_more : (b : ℕ) (bs : List ℕ) (ls ms : List (List ℕ)) → end_by 10 ms ≡ b ∷ end_by 10 ls → Ended bs ls → Ended (b ∷ bs) ms
unfolding Ended
ended_more b bs ls ms m (inl e) = inl (m ∙ ap (λ x. b ∷ x) e)
ended_more b bs ls ms m (inr e) = inr (m ∙ ap (λ x. b ∷ x) e)

lines_ended : (bs : List ℕ) → Ended bs (lines bs)
unfolding Ended
lines_ended [] = inl refl
lines_ended (b ∷ []) = go (eqb b 10) refl
  where
    go : (t : Bool) → eqb b 10 ≡ t → Ended (b ∷ []) (cond t ([] ∷ []) ((b ∷ []) ∷ []))
    go true e = inl (ap (λ x. x ∷ []) (sym (eqb-true b 10 e)))
    go false e = inr refl
lines_ended (b ∷ x ∷ xs) = go (eqb b 10) refl (lines_ended (x ∷ xs))
  where
    bs : List ℕ
    bs = x ∷ xs

    go : (t : Bool) → eqb b 10 ≡ t → Ended bs (lines bs) → Ended (b ∷ bs) (cond t ([] ∷ lines bs) (onto_first b (lines bs)))
    go true e ih = ended_more b bs (lines bs) ([] ∷ lines bs) (ap (λ c. c ∷ end_by 10 (lines bs)) (sym (eqb-true b 10 e))) ih
    go false e ih = ended_more b bs (lines bs) (onto_first b (lines bs)) (rw (lines_cut x xs)) ih

pub lines_join : LinesJoin
unfolding Ended
lines_join bs = (lines_ended bs, pieces_lack [] 10 bs tt)

-- lines before more text
lines_before : (ls : List (List ℕ)) (rest : List ℕ) → AllByRecursion (Lacks 10) ls → lines (end_by 10 ls ++ rest) ≡ ls ++ lines rest
lines_before [] rest l = refl
lines_before (p ∷ ps) rest l =
    ap lines (append_assoc (p ++ (10 ∷ [])) (end_by 10 ps) rest ∙ append_assoc p (10 ∷ []) (end_by 10 ps ++ rest))
    ∙ next_piece [] 10 p (end_by 10 ps ++ rest) l.0
    ∙ ap (λ ls. p ∷ ls) (lines_before ps rest l.1)

pub lines_alone : LinesAlone
lines_alone ls l each last = (ap lines (sym (append-nil (end_by 10 ls))) ∙ lines_before ls [] each ∙ append-nil ls, λ some. lines_before ls l each ∙ ap (λ m. ls ++ m) (last_line l last some))
