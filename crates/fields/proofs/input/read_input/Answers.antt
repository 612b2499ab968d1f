use Rattle.std.proofs.Common.{◌≡◌, ℕ, List, take, IfSome, Some, None, Option}
use Rattle.std.specs.Option.{option_map}
use Rattle.fields.proofs.input.read_input.Goals as goal

taken : (known : Option (List ℕ)) (n : ℕ) (bs : List ℕ) → IfSome (option_map (take n) known) (λ xs. bs ≡ xs) → IfSome known (λ xs. bs ≡ take n xs)
taken None n bs h = tt
taken (Some xs) n bs h = h

pub returns : goal.returns
returns g c = taken (g.R.Read.remaining c.args.reader) 32769 _ (rw (c.take.ensures.limit, c.take.ensures.inner, c.new-input.ensures.items) at c.in_ok-read_to_end.ensures.bytes)
