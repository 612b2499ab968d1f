-- The bytes of a report. Assumes nothing.
use Rattle.std.specs.Prelude.{◌≡◌, ℕ, ◌≤◌, List, [], ◌∷◌, ◌++◌, Some, None, Ok, Err, codes, decimal, Option, Result}
use Rattle.std.specs.Option.{option_map}
use Rattle.std.specs.Result.{result_map_both}
use Rattle.logs.specs.declared.fault.RunFault.{RunFault}
use Rattle.logs.specs.declared.reply.Reply.{Reply}
use Rattle.logs.specs.declared.reply.Reply.TheVariants.{Started, Advanced, Weighed, Resampled, Shared, Path, Finished}
use Rattle.fields.specs.declared.written.AfterCommas.{AfterCommas}
use Rattle.fields.specs.Written.{each_after_comma}
use Rattle.logs.specs.Faults.{run_number, run_place}

abbrev pub place_text : Option ℕ → List ℕ
place_text None = []
place_text (Some k) = 44 ∷ decimal k

abbrev pub fault_text : RunFault → List ℕ
fault_text f = codes "!," ++ (decimal (run_number f) ++ place_text (run_place f))

abbrev pub reply_text : Reply (List ℕ) → List ℕ
reply_text (Started n) = codes "S," ++ decimal n
reply_text (Advanced n) = codes "A," ++ decimal n
reply_text (Weighed n) = codes "W," ++ decimal n
reply_text (Resampled n) = codes "R," ++ decimal n
reply_text (Shared p) = codes "E," ++ (decimal p.0 ++ (codes "," ++ decimal p.1))
reply_text (Path ns) = codes "P" ++ each_after_comma ns
reply_text (Finished n) = codes "F," ++ decimal n

-- a line number, a comma, the text and a line feed
abbrev pub numbered : ℕ → List ℕ → List ℕ
numbered k bs = decimal k ++ (codes "," ++ (bs ++ (10 ∷ [])))

-- what the report says of line k
abbrev pub entry_text : ℕ → Result (Option (Reply (List ℕ))) RunFault → List ℕ
entry_text k (Ok None) = []
entry_text k (Ok (Some r)) = numbered k (reply_text r)
entry_text k (Err f) = numbered k (fault_text f)

abbrev pub map_reply : {X Y : Type 0} → (X → Y) → Reply X → Reply Y
map_reply f (Started n) = Started n
map_reply f (Advanced n) = Advanced n
map_reply f (Weighed n) = Weighed n
map_reply f (Resampled n) = Resampled n
map_reply f (Shared p) = Shared p
map_reply f (Path x) = Path (f x)
map_reply f (Finished n) = Finished n

-- the second reply is the first, with a path that R holds of
abbrev pub MapsPath : {X Y : Type 0} → (X → Y → Type 0) → Reply X → Reply Y → Type 0
MapsPath R (Started n) r = r ≡ Started n
MapsPath R (Advanced n) r = r ≡ Advanced n
MapsPath R (Weighed n) r = r ≡ Weighed n
MapsPath R (Resampled n) r = r ≡ Resampled n
MapsPath R (Shared p) r = r ≡ Shared p
MapsPath {Y = Y} R (Path x) r = (y : Y) × R x y × (r ≡ Path y)
MapsPath R (Finished n) r = r ≡ Finished n

abbrev pub codes_of : AfterCommas → List ℕ
codes_of c = c.0.now

abbrev pub viewed : {X Y E : Type 0} → (X → Y) → Result (Option (Reply X)) E → Result (Option (Reply Y)) E
viewed f r = result_map_both (option_map (map_reply f)) (λ e. e) r

-- a path's count is within a row of n numbers
abbrev pub InReply : ℕ → Reply ℕ → Type 0
InReply n (Started k) = Unit {0}
InReply n (Advanced k) = Unit {0}
InReply n (Weighed k) = Unit {0}
InReply n (Resampled k) = Unit {0}
InReply n (Shared p) = Unit {0}
InReply n (Path k) = k ≤ n
InReply n (Finished k) = Unit {0}

abbrev pub InRow : {E : Type 0} → ℕ → Result (Option (Reply ℕ)) E → Type 0
InRow n (Ok None) = Unit {0}
InRow n (Ok (Some r)) = InReply n r
InRow n (Err e) = Unit {0}
