-- What follows from a supply's laws for draws one after another.
use Rattle.std.proofs.Common.{◌≡◌, ℕ, zero, suc, ◌+◌, ◌-◌, ◌<◌, ◌≤◌, true, Ok, refl, ap, ◌∙◌, zero-add, arith}
use Rattle.std.proofs.lemmas.Grind.{common_steps}
use Rattle.std.proofs.lemmas.Bool.{cond-true}
use Rattle.sources.specs.Supplies.{Supply, Lawful, after, drawn, left}

can_down : (s : Supply) → Lawful s → (d m n : ℕ) → n ≡ m + d → s.can n ≡ true → s.can m ≡ true
can_down s l zero m n e h = ap s.can (let k : m ≡ n = omega arith in k) ∙ h
can_down s l (suc d) m n e h =
    can_down s l d m (m + d) refl (l.fewer (m + d) (ap s.can (let k : m + d + 1 ≡ n = omega arith in k) ∙ h))

-- whoever can draw n numbers can draw fewer
pub can_fewer : (s : Supply) → Lawful s → (m n : ℕ) → m ≤ n → s.can n ≡ true → s.can m ≡ true
can_fewer s l m n h = can_down s l (n - m) m n (omega arith)

pub after_none : (s : Supply) → after 0 s ≡ s
after_none s = grind (arith, common_steps)

pub after_after : (s : Supply) (m n : ℕ) → after m (after n s) ≡ after (n + m) s
after_after s m n = grind (arith, common_steps)

-- draw i of n that can be drawn
pub draw_at : (s : Supply) → Lawful s → (i n : ℕ) → i < n → s.can n ≡ true → (t : Supply) → t ≡ after i s → (drawn t ≡ Ok (s.to_come i)) × (left t ≡ after (i + 1) s)
draw_at s l i n h c t e =
    let k : s.can (1 + i) ≡ true = can_fewer s l (1 + i) n (omega arith) c in (
      ap drawn e ∙ cond-true (s.can (1 + i)) _ _ k ∙ ap (λ m. Ok (s.to_come m)) (zero-add i),
      ap left e ∙ cond-true (s.can (1 + i)) _ _ k ∙ after_after s 1 i,
    )
