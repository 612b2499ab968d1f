-- No draw serves two nodes. Assumes nothing.
use Rattle.std.proofs.Common.{ℕ, ◌+◌, ◌≤◌, List, ◌∷◌, arith}
use Rattle.std.specs.List.{AllByRecursion}
use Rattle.std.proofs.ByRecursion.{All-weaker}
use Rattle.filter.specs.Makings.{Making, Apart, AllApart}
use Rattle.filter.proofs.Alls.{all_both}

-- the serials and draws of a making lie below these counts
abbrev pub Within : ℕ → ℕ → Making → Type 0
Within b d g = (g.first_serial + g.count ≤ b) × (g.first_draw + g.count ≤ d)

pub within_more : (b d c e : ℕ) → b ≤ c → d ≤ e → (gs : List Making) → AllByRecursion (Within b d) gs → AllByRecursion (Within c e) gs
within_more b d c e l u gs w = All-weaker (Within b d) (Within c e) (λ g h. (omega arith, omega arith)) gs w

apart_itself : (g : Making) → Apart g g
apart_itself g i j a b = (λ e. omega arith, λ e. omega arith)

apart_later : (g h : Making) → Within g.first_serial g.first_draw h → Apart g h
apart_later g h w i j a b = (λ e. absurd (omega arith), λ e. absurd (omega arith))

apart_earlier : (g h : Making) → Within g.first_serial g.first_draw h → Apart h g
apart_earlier g h w i j a b = (λ e. absurd (omega arith), λ e. absurd (omega arith))

-- one making more, after all others
pub apart_more : (gs : List Making) (g : Making) → AllByRecursion (Within g.first_serial g.first_draw) gs → AllApart gs → AllApart (g ∷ gs)
apart_more gs g w a = (
  (apart_itself g, All-weaker (Within g.first_serial g.first_draw) (Apart g) (apart_later g) gs w),
  All-weaker (λ h. Within g.first_serial g.first_draw h × AllByRecursion (Apart h) gs) (λ h. Apart h g × AllByRecursion (Apart h) gs) (λ h p. (apart_earlier g h p.0, p.1)) gs
      (all_both (Within g.first_serial g.first_draw) (λ h. AllByRecursion (Apart h) gs) gs w a),
)
