-- The cart: the grid under a slip layer, under a floor layer. Assumes nothing.
use Rattle.std.specs.Prelude.{ℕ, List}
use Rattle.models.specs.Meanings.{Meaning}
use Rattle.models.specs.Grids.{grid_meaning}
use Rattle.models.specs.Layers.{slipping, floored}
use Rattle.models.specs.declared.pose.Pose.{Pose}

-- the meaning of the cart with this least score, this chance of a slip and these rows of the map
abbrev pub cart_meaning : ℕ → ℕ → List ℕ → Meaning Pose
cart_meaning least chance rows = floored least (slipping chance (grid_meaning rows))
