-- Steps of the generator, and its supply after some of them.
use Rattle.std.specs.Prelude.{◌≡◌, ℕ, zero, suc, ◌+◌, ◌^◌, ◌<◌, refl}
use Rattle.std.proofs.Common.{ap, ◌∙◌, suc-add, arith}
use Rattle.std.proofs.lemmas.Grind.{common_steps}
use Rattle.sources.specs.Supplies.{after, Lawful}
use Rattle.sources.specs.Generators.{step, steps, generator_supply}

pub steps_add : (m n v : ℕ) → steps (m + n) v ≡ steps n (steps m v)
steps_add zero n v = grind (arith, common_steps)
steps_add (suc m) n v = ap (λ k. steps k v) (suc-add m n) ∙ steps_add m n (step v)

pub step_steps : (n v : ℕ) → step (steps n v) ≡ steps n (step v)
step_steps zero v = refl
step_steps (suc n) v = step_steps n (step v)

pub steps_below : (n v : ℕ) → steps n (step v) < 2 ^ 32
steps_below zero v = omega arith
steps_below (suc n) v = steps_below n (step v)

pub generator_lawful : (v : ℕ) → Lawful (generator_supply v)
generator_lawful v = record { none = refl; fewer = λ n h. refl; below = λ k. steps_below k v }

-- the supply from the value after n steps on is the supply once n numbers were drawn
pub generator_after : (n v : ℕ) → generator_supply (steps n v) ≡ after n (generator_supply v)
generator_after n v = grind (arith, common_steps, step_steps n v, λ (k : ℕ). steps_add n k (step v))
