-- Which nodes are in use: those with a serial on the path of a particle or of an open hold. Assumes nothing.
use Rattle.std.specs.Prelude.{ℕ, ◌+◌, ◌-◌, Bool, false, cond, ◌||◌, List, [], ◌∷◌, ◌++◌, map, Some, None, Option, ◌==◌}
use Rattle.filter.specs.Filters.{PathOf, Filter}

-- the paths in the open places
abbrev pub opened : {S : Type 0} → List (Option (PathOf S)) → List (PathOf S)
opened [] = []
opened (None ∷ ps) = opened ps
opened (Some p ∷ ps) = p ∷ opened ps

-- the paths of the particles and of the open holds
abbrev pub all_paths : {S : Type 0} → Filter S → List (PathOf S)
all_paths f = f.paths ++ opened f.places

-- the serials on a path
abbrev pub serials_on : {S : Type 0} → PathOf S → List ℕ
serials_on p = map (λ x. x.serial) p

-- the serials on all paths
abbrev pub serials : {S : Type 0} → List (PathOf S) → List ℕ
serials [] = []
serials (p ∷ ps) = serials_on p ++ serials ps

-- s stands in the list
abbrev pub member : ℕ → List ℕ → Bool
member s [] = false
member s (x ∷ xs) = s == x || member s xs

-- how many different numbers a list has
abbrev pub different : List ℕ → ℕ
different [] = 0
different (x ∷ xs) = cond (member x xs) 0 1 + different xs

-- the serial is in use
abbrev pub live : {S : Type 0} → ℕ → Filter S → Bool
live s f = member s (serials (all_paths f))

-- the number of nodes in use
unfoldable pub in_use : {S : Type 0} → Filter S → ℕ
in_use f = different (serials (all_paths f))

-- the number of nodes that the maker uses, less those in use
abbrev pub free : {S : Type 0} → Filter S → ℕ
free f = f.room - in_use f
