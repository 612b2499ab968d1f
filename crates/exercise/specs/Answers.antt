-- The answer of an exercise, and the report. Assumes nothing.
use Rattle.std.specs.Prelude.{ℕ, List, ◌++◌, length, Ok, Err, codes, decimal, Result}
use Rattle.refusals.specs.declared.Refusal.{Refusal}
use Rattle.fields.specs.Written.{each_after_comma}
use Rattle.resampling.specs.Marks as marks
use Rattle.resampling.specs.Children.{children_of_each}
use Rattle.resampling.specs.Calls.{total_of, children_reply}
use Rattle.exercise.specs.declared.fault.Fault.{Fault}
use Rattle.exercise.specs.declared.fault.Fault.TheVariants.{Call}
use Rattle.exercise.specs.Faults.{fault_text}
use Rattle.exercise.specs.Inputs.{exercise_of}

pub record Answer : Type 0 where
  pub total : ℕ
  pub offset : ℕ
  pub parents : List ℕ
  pub children : List ℕ

-- a refusal of a call, carried whole
abbrev pub in_call : {X Y : Type 0} → (X → Y) → Result X Refusal → Result Y Fault
in_call f (Ok x) = Ok (f x)
in_call f (Err e) = Err (Call e)

-- the parents for the drawn number r
abbrev pub parents_of : List ℕ → ℕ → Result (List ℕ) Fault
parents_of ws r = in_call (λ w. marks.parents ws (marks.offset r w)) (total_of ws)

-- the children of each particle, where all parents are particles
abbrev pub children_of : List ℕ → Result (List ℕ) Fault
children_of ps = in_call (λ _. children_of_each ps) (children_reply ps (length ps))

-- the answer for weights of the total w, and the drawn number r
abbrev pub answer : List ℕ → ℕ → ℕ → Answer
answer ws r w = record {
  total = w;
  offset = marks.offset r w;
  parents = marks.parents ws (marks.offset r w);
  children = children_of_each (marks.parents ws (marks.offset r w));
}

abbrev pub answer_of : List ℕ → ℕ → Result Answer Fault
answer_of ws r = in_call (answer ws r) (total_of ws)

-- the answer of an exercise that could be read
abbrev pub in_exercise : Result (List ℕ × ℕ) Fault → Result Answer Fault
in_exercise (Ok x) = answer_of x.0 x.1
in_exercise (Err f) = Err f

abbrev pub result_of : List ℕ → Result Answer Fault
result_of bs = in_exercise (exercise_of bs)

-- four lines: the total, the offset, the parents and the children
abbrev pub answer_text : Answer → List ℕ
answer_text a =
    codes "total," ++ (decimal a.total ++ (codes "\noffset," ++ (decimal a.offset
    ++ (codes "\nparents" ++ (each_after_comma a.parents ++ (codes "\nchildren" ++ (each_after_comma a.children ++ codes "\n")))))))

abbrev pub result_text : Result Answer Fault → List ℕ
result_text (Ok a) = answer_text a
result_text (Err f) = fault_text f

-- what is printed for an input
abbrev pub report_of : List ℕ → List ℕ
report_of bs = result_text (result_of bs)
