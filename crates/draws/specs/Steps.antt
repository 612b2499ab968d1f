-- Steps that make the places of a row one after another. Assumes nothing.
use Rattle.std.specs.Prelude.{ℕ, ◌<◌, List, length, IsOk, Ok, Result, slice_index_or}
use Rattle.refusals.specs.declared.Refusal.{Refusal}
use Rattle.sources.specs.Supplies.{Supply}

-- no step refuses, at any place with the number of that place
abbrev pub Granted : {S : Type 0} → (S → ℕ → Result S Refusal → Type 0) → Supply → List S → Type 0
Granted {S} Step s row = (k : ℕ) (d : S) (r : Result S Refusal) → k < length row → Step (slice_index_or row k d) (s.to_come k) r → IsOk r

-- each place of the new row is what a step made of the old one's and of the number of that place
abbrev pub Stepped : {S : Type 0} → (S → ℕ → Result S Refusal → Type 0) → Supply → List S → List S → Type 0
Stepped {S} Step s old new = (k : ℕ) (d : S) → k < length old → Step (slice_index_or old k d) (s.to_come k) (Ok (slice_index_or new k d))
