-- What the echo replies: the numbers of a line. Assumes nothing.
use Rattle.std.specs.Prelude.{ℕ, ◌+◌, ◌%◌, ◌^◌, cond, List, Some, None, Ok, Err, Option, Result, nat_lt}
use Rattle.std.specs.List.{range_with_len}
use Rattle.refusals.specs.declared.Refusal.{Refusal}
use Rattle.refusals.specs.declared.Refusal.TheVariants.{NoRoom}
use Rattle.logs.specs.declared.line.Line.{Line}
use Rattle.logs.specs.declared.line.Line.TheVariants.{Map, Seed, Record, Start, Advance, Weigh, Resample, Share, Path, Finish}
use Rattle.logs.specs.declared.reply.Reply.{Reply}
use Rattle.logs.specs.declared.reply.Reply.TheVariants as reply

-- a sum that wraps
abbrev pub plus : ℕ → ℕ → ℕ
plus a b = (a + b) % 2 ^ 32

abbrev pub Replied : Type 0
Replied = Result (Option (Reply (List ℕ))) Refusal

abbrev pub said : Reply (List ℕ) → Replied
said r = Ok (Some r)

abbrev pub echoes : ℕ → ℕ → Line → ℕ × Replied
echoes room sum (Map row bits) = (plus (plus sum row) bits, Ok None)
echoes room sum (Seed value) = (plus sum value, Ok None)
echoes room sum (Record value) = (plus sum value, Ok None)
echoes room sum (Start count) = (sum, said (reply.Started count))
echoes room sum (Advance command) = (sum, said (reply.Advanced command))
echoes room sum (Weigh reading) = (sum, said (reply.Weighed reading))
echoes room sum Resample = (sum, said (reply.Resampled sum))
echoes room sum (Share None code) = (sum, said (reply.Shared (4294967295, code)))
echoes room sum (Share (Some lag) code) = (sum, said (reply.Shared (lag, code)))
echoes room sum (Path particle) = (sum, cond (nat_lt room particle) (Err NoRoom) (said (reply.Path (range_with_len 0 particle))))
echoes room sum Finish = (sum, said (reply.Finished sum))
