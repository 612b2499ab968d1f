-- Draws one after another: what can be drawn, the number that comes, and the supply that is left.
use Rattle.std.proofs.Common.{◌≡◌, ℕ, ◌+◌, ◌<◌, true, ap, ◌∙◌, zero-add, arith}
use Rattle.sources.specs.Supplies.{Supply, Lawful, after}
use Rattle.sources.proofs.Draws.{can_fewer, after_after}

-- before draw i of n that can be drawn, one can be drawn
pub can_now : (s t : Supply) → Lawful s → (i n : ℕ) → i < n → s.can n ≡ true → t ≡ after i s → t.can 1 ≡ true
can_now s t l i n h c e = ap (λ u. u.can 1) e ∙ can_fewer s l (1 + i) n (omega arith) c

pub number_now : (s t : Supply) (i : ℕ) → t ≡ after i s → t.to_come 0 ≡ s.to_come i
number_now s t i e = ap (λ u. u.to_come 0) e ∙ ap s.to_come (zero-add i)

pub rest_now : (s t u : Supply) (i : ℕ) → t ≡ after i s → u ≡ after 1 t → u ≡ after (i + 1) s
rest_now s t u i e h = h ∙ ap (after 1) e ∙ after_after s 1 i
