-- What the functions' results stand for. Assumes nothing.
use Rattle.std.specs.Prelude.{◌≡◌, ℕ, List, Ok, Err, vec_items, Result}
use Rattle.exercise.specs.declared.fault.Fault.{Fault}
use Rattle.exercise.specs.declared.fault.Failure.{Failure}
use Rattle.exercise.specs.declared.fault.Failure.TheVariants.{Memory, Told}
use Rattle.exercise.specs.declared.input.Exercise.{Exercise}
use Rattle.exercise.specs.declared.solution.Solution.{Solution}
use Rattle.exercise.specs.Answers.{Answer}

abbrev pub in_result : {X Y E : Type 0} → (X → Y) → Result X E → Result Y E
in_result view (Ok x) = Ok (view x)
in_result view (Err e) = Err e

-- r stands for what is wanted, unless memory was wanting
abbrev pub Yields : {X Y : Type 0} → (X → Y) → Result X Failure → Result Y Fault → Type 0
Yields view (Ok x) wanted = wanted ≡ Ok (view x)
Yields view (Err (Memory e)) wanted = Unit {0}
Yields view (Err (Told f)) wanted = wanted ≡ Err f

abbrev pub exercise_view : Exercise → List ℕ × ℕ
exercise_view e = (vec_items e.weights, e.drawn)

abbrev pub solution_view : Solution → Answer
solution_view s = record { total = s.total; offset = s.offset; parents = vec_items s.parents; children = vec_items s.children }
