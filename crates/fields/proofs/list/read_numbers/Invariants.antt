use Rattle.std.proofs.Common.{◌≡◌, ◌+◌, length, drop, vec_items, vec_len}
use Rattle.fields.specs.Cuts.{fields}
use Rattle.fields.specs.Lists.{numbers_of}
use Rattle.fields.proofs.Listing.{after_those}
use Rattle.fields.proofs.list.read_numbers.Given as goal

-- a number for each field so far, and what is to be read of the others
abbrev pub invariant-loop-field : goal.invariant-loop-field
invariant-loop-field l =
    (vec_len l.numbers ≡ length l.yielded)
    × (after_those (vec_items l.numbers) (numbers_of (length l.yielded + 1) l.limit (drop (length l.yielded) (fields l.line))) ≡ numbers_of 1 l.limit (fields l.line))
