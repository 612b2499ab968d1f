-- A line is read exactly when it is written. Assumes nothing.
use Rattle.std.proofs.Common.{◌≡◌, ℕ, Bool, true, false, cond, eqb, ltb, List, [], ◌∷◌, length, Some, None, Ok, Err, Option, Result, sym, refl, ap, ◌∙◌, subst, arith, ltb-false, le-ltb, eqb-true}
use borrow.Author.Tests.{eqb-false}
use Rattle.std.specs.List.{AllByRecursion}
use Rattle.fields.specs.declared.fault.FieldFault.{FieldFault}
use Rattle.fields.specs.Cuts.{fields}
use Rattle.fields.specs.Numbers.{Numeral, read_field}
use Rattle.fields.specs.Laws.{join_by, Lacks}
use Rattle.fields.proofs.Exact.{numeral_from_read, read_from_numeral, digits_lack}
use Rattle.fields.proofs.Joining.{fields_join, fields_alone}
use Rattle.logs.specs.declared.fault.LineFault.{LineFault}
use Rattle.logs.specs.declared.fault.LineFault.TheVariants.{TooLong}
use Rattle.logs.specs.declared.line.Program.{Program}
use Rattle.logs.specs.declared.line.Program.TheVariants.{Locate, Lift}
use Rattle.logs.specs.declared.line.Letter.{Letter}
use Rattle.logs.specs.declared.line.Letter.TheVariants.{Map, Seed, Record, Start, Advance, Weigh, Resample, Share, Path, Finish}
use Rattle.logs.specs.declared.line.Line.{Line}
use Rattle.logs.specs.declared.line.Line.TheVariants as line
use Rattle.logs.specs.Lines.{locate_only, lift_only, letter_of, in_line, both, become, arguments_of, no_number, one_number, two_numbers, share_of, line_by, line_by_known, only_letter, from_fields, line_of}
use Rattle.logs.specs.Forms.{Parts, parts_of, Writes, Form, LinesExact}

code_of : Letter → ℕ
code_of Map = 77
code_of Seed = 71
code_of Record = 68
code_of Start = 83
code_of Advance = 65
code_of Weigh = 87
code_of Resample = 82
code_of Share = 69
code_of Path = 80
code_of Finish = 70

-- the letters that a program has
Has : Program → Letter → Type 0
Has p l = letter_of p (code_of l) ≡ Some l

-- one test of a chain
one_test : {X : Type 0} (c k : ℕ) (r s : Option Letter) (l : Letter) → (c ≡ k → r ≡ Some l → X) → (s ≡ Some l → X) → cond (eqb c k) r s ≡ Some l → X
one_test {X} c k r s l here there h = go (eqb c k) refl h
  where
    go : (t : Bool) → eqb c k ≡ t → cond t r s ≡ Some l → X
    go true e g = here (eqb-true c k e) g
    go false e g = there g

letter_known : (p : Program) (c : ℕ) (l : Letter) → letter_of p c ≡ Some l → c ≡ code_of l
unfolding code_of
letter_known p c l =
    one_test c 77 _ _ l (λ e h. e ∙ locates p Map l h)
    (one_test c 71 _ _ l (λ e h. e ∙ locates p Seed l h)
    (one_test c 68 _ _ l (λ e h. e ∙ lifts p Record l h)
    (one_test c 83 _ _ l (λ e h. e ∙ same Start l h)
    (one_test c 65 _ _ l (λ e h. e ∙ same Advance l h)
    (one_test c 87 _ _ l (λ e h. e ∙ same Weigh l h)
    (one_test c 82 _ _ l (λ e h. e ∙ same Resample l h)
    (one_test c 69 _ _ l (λ e h. e ∙ same Share l h)
    (one_test c 80 _ _ l (λ e h. e ∙ same Path l h)
    (one_test c 70 _ _ l (λ e h. e ∙ same Finish l h) (λ h. cc))))))))))
  where
    same : (k l : Letter) → Some k ≡ Some l → code_of k ≡ code_of l
    same k l h = let e : k ≡ l = cc in ap code_of e

    locates : (p : Program) (k l : Letter) → locate_only p k ≡ Some l → code_of k ≡ code_of l
    locates Locate k l h = same k l h
    locates Lift k l h = cc

    lifts : (p : Program) (k l : Letter) → lift_only p k ≡ Some l → code_of k ≡ code_of l
    lifts Locate k l h = cc
    lifts Lift k l h = same k l h

become_ok : {X : Type 0} (f : X → Line) (r : Result X LineFault) (l : Line) → become f r ≡ Ok l → (x : X) × (r ≡ Ok x) × (f x ≡ l)
become_ok f (Ok x) l h = (x, refl, cc)
become_ok f (Err e) l h = cc

pub in_line_ok : (k limit : ℕ) (a : List ℕ) (n : ℕ) → in_line (read_field k limit a) ≡ Ok n → Numeral limit a n
in_line_ok k limit a n h = numeral_from_read k limit a n (go (read_field k limit a) h)
  where
    go : (r : Result ℕ FieldFault) → in_line r ≡ Ok n → r ≡ Ok n
    go (Ok m) g = let e : m ≡ n = cc in ap (λ (x : ℕ). Ok x) e
    go (Err f) g = cc

both_ok : (r s : Result ℕ LineFault) (x y : ℕ) → both r s ≡ Ok (x, y) → (r ≡ Ok x) × (s ≡ Ok y)
both_ok (Ok u) (Ok v) x y h = let e : ◌≡◌ {A = ℕ × ℕ} (u, v) (x, y) = cc in (ap (λ p. Ok p.0) e, ap (λ p. Ok p.1) e)
both_ok (Ok u) (Err f) x y h = cc
both_ok (Err f) s x y h = cc

none_ok : (fs : List (List ℕ)) (u : Unit {0}) → no_number (arguments_of fs) ≡ Ok u → Writes [] fs
none_ok [] u h = tt
none_ok (a ∷ []) u h = cc
none_ok (a ∷ b ∷ []) u h = cc
none_ok (a ∷ b ∷ c ∷ fs) u h = cc

one_ok : (limit : ℕ) (fs : List (List ℕ)) (n : ℕ) → one_number limit (arguments_of fs) ≡ Ok n → Writes ((limit, n) ∷ []) fs
one_ok limit [] n h = cc
one_ok limit (a ∷ []) n h = (in_line_ok 2 limit a n h, tt)
one_ok limit (a ∷ b ∷ []) n h = cc
one_ok limit (a ∷ b ∷ c ∷ fs) n h = cc

pair_ok : (limit other : ℕ) (a b : List ℕ) (x y : ℕ) → both (in_line (read_field 2 limit a)) (in_line (read_field 3 other b)) ≡ Ok (x, y) → Writes ((limit, x) ∷ (other, y) ∷ []) (a ∷ b ∷ [])
pair_ok limit other a b x y h = let p = both_ok (in_line (read_field 2 limit a)) (in_line (read_field 3 other b)) x y h in (in_line_ok 2 limit a x p.0, (in_line_ok 3 other b y p.1, tt))

two_ok : (limit other : ℕ) (fs : List (List ℕ)) (x y : ℕ) → two_numbers limit other (arguments_of fs) ≡ Ok (x, y) → Writes ((limit, x) ∷ (other, y) ∷ []) fs
two_ok limit other [] x y h = cc
two_ok limit other (a ∷ []) x y h = cc
two_ok limit other (a ∷ b ∷ []) x y h = pair_ok limit other a b x y h
two_ok limit other (a ∷ b ∷ c ∷ fs) x y h = cc

-- what a line that was read by its letter is written of
Found : Program → Letter → List (List ℕ) → Line → Type 0
Found p k fs l = (w : Parts) × (parts_of p l ≡ Some w) × (w.0 ≡ code_of k) × Writes w.1 fs

-- a line that was made of what was read, and is written of the parts w
wrote : {X : Type 0} (p : Program) (k : Letter) (fs : List (List ℕ)) (l : Line) (f : X → Line) (r : Result X LineFault) (w : X → Parts) → become f r ≡ Ok l → ((x : X) → parts_of p (f x) ≡ Some (w x)) → ((x : X) → (w x).0 ≡ code_of k) → ((x : X) → r ≡ Ok x → Writes (w x).1 fs) → Found p k fs l
unfolding Found
wrote p k fs l f r w h has code writes = let x = become_ok f r l h in subst (Found p k fs) x.2 (w x.0, has x.0, code x.0, writes x.0 x.1)

share_found : (p : Program) (fs : List (List ℕ)) (l : Line) → share_of (arguments_of fs) ≡ Ok l → Found p Share fs l
unfolding code_of
share_found p [] l h = cc
share_found p (a ∷ []) l h = wrote p Share (a ∷ []) l (line.Share None) _ (λ n. (69, (65535, n) ∷ [])) h (λ n. refl) (λ n. refl) (λ n e. (in_line_ok 2 65535 a n e, tt))
share_found p (a ∷ b ∷ []) l h = wrote p Share (a ∷ b ∷ []) l (λ q. line.Share (Some q.0) q.1) _ (λ q. (69, (65535, q.0) ∷ (65535, q.1) ∷ [])) h (λ q. refl) (λ q. refl) (λ q e. pair_ok 65535 65535 a b q.0 q.1 e)
share_found p (a ∷ b ∷ c ∷ fs) l h = cc

by_letter : (p : Program) (k : Letter) (fs : List (List ℕ)) (l : Line) → Has p k → line_by k (arguments_of fs) ≡ Ok l → Found p k fs l
unfolding Has code_of
by_letter Locate Map fs l has h = wrote Locate Map fs l (λ q. line.Map q.0 q.1) _ (λ q. (77, (31, q.0) ∷ (4294967295, q.1) ∷ [])) h (λ q. refl) (λ q. refl) (λ q e. two_ok 31 4294967295 fs q.0 q.1 e)
by_letter Lift Map fs l has h = cc
by_letter Locate Seed fs l has h = wrote Locate Seed fs l line.Seed _ (λ n. (71, (4294967295, n) ∷ [])) h (λ n. refl) (λ n. refl) (one_ok 4294967295 fs)
by_letter Lift Seed fs l has h = cc
by_letter Locate Record fs l has h = cc
by_letter Lift Record fs l has h = wrote Lift Record fs l line.Record _ (λ n. (68, (4294967295, n) ∷ [])) h (λ n. refl) (λ n. refl) (one_ok 4294967295 fs)
by_letter p Start fs l has h = wrote p Start fs l line.Start _ (λ n. (83, (65535, n) ∷ [])) h (λ n. refl) (λ n. refl) (one_ok 65535 fs)
by_letter p Advance fs l has h = wrote p Advance fs l line.Advance _ (λ n. (65, (255, n) ∷ [])) h (λ n. refl) (λ n. refl) (one_ok 255 fs)
by_letter p Weigh fs l has h = wrote p Weigh fs l line.Weigh _ (λ n. (87, (255, n) ∷ [])) h (λ n. refl) (λ n. refl) (one_ok 255 fs)
by_letter p Resample fs l has h = wrote p Resample fs l (λ _. line.Resample) _ (λ u. (82, [])) h (λ u. refl) (λ u. refl) (none_ok fs)
by_letter p Share fs l has h = share_found p fs l h
by_letter p Path fs l has h = wrote p Path fs l line.Path _ (λ n. (80, (65535, n) ∷ [])) h (λ n. refl) (λ n. refl) (one_ok 65535 fs)
by_letter p Finish fs l has h = wrote p Finish fs l (λ _. line.Finish) _ (λ u. (70, [])) h (λ u. refl) (λ u. refl) (none_ok fs)

known_ok : (p : Program) (o : Option Letter) (fs : List (List ℕ)) (l : Line) → line_by_known o (arguments_of fs) ≡ Ok l → (k : Letter) × (o ≡ Some k) × (line_by k (arguments_of fs) ≡ Ok l)
known_ok p None fs l h = cc
known_ok p (Some k) fs l h = (k, refl, h)

only_ok : (p : Program) (f : List ℕ) (k : Letter) → only_letter p f ≡ Some k → (f ≡ code_of k ∷ []) × Has p k
unfolding Has
only_ok p [] k h = cc
only_ok p (c ∷ []) k h = let e = letter_known p c k h in (ap (λ (x : ℕ). x ∷ []) e, sym (ap (letter_of p) e) ∙ h)
only_ok p (c ∷ d ∷ cs) k h = cc

fields_ok : (p : Program) (fs : List (List ℕ)) (l : Line) → from_fields p fs ≡ Ok l → (w : Parts) × (ds : List (List ℕ)) × (parts_of p l ≡ Some w) × Writes w.1 ds × (fs ≡ (w.0 ∷ []) ∷ ds)
unfolding Found
fields_ok p [] l h = cc
fields_ok p (f ∷ fs) l h =
    let k = known_ok p (only_letter p f) fs l h in
    let o = only_ok p f k.0 k.1 in
    let w = by_letter p k.0 fs l o.1 k.2 in
    (w.0, fs, w.1, w.3, ap (λ x. x ∷ fs) (o.0 ∙ ap (λ (c : ℕ). c ∷ []) (sym w.2)))

form_from_read : (p : Program) (bs : List ℕ) (l : Line) → line_of p bs ≡ Ok l → Form p l bs
form_from_read p bs l h = go (ltb 100 (length bs)) refl h
  where
    go : (t : Bool) → ltb 100 (length bs) ≡ t → cond t (Err TooLong) (from_fields p (fields bs)) ≡ Ok l → Form p l bs
    go true e g = cc
    go false e g =
        let x = fields_ok p (fields bs) l g in
        record { short = ltb-false 100 (length bs) e; parts = x.0; has = x.2; digits = x.1; numbers = x.3; text = sym (fields_join bs).0 ∙ ap (join_by 44) x.4 }

-- and back
writes_lack : (ns : List (ℕ × ℕ)) (fs : List (List ℕ)) → Writes ns fs → AllByRecursion (Lacks 44) fs
writes_lack [] [] w = tt
writes_lack [] (f ∷ fs) w = absurd w
writes_lack (n ∷ ns) [] w = absurd w
writes_lack (n ∷ ns) (f ∷ fs) w = (digits_lack 44 f (omega arith) w.0.only_digits, writes_lack ns fs w.1)

in_line_read : (k limit : ℕ) (a : List ℕ) (n : ℕ) → Numeral limit a n → in_line (read_field k limit a) ≡ Ok n
in_line_read k limit a n h = ap in_line (read_from_numeral k limit a n h)

none_read : (fs : List (List ℕ)) → Writes [] fs → no_number (arguments_of fs) ≡ Ok tt
none_read [] w = refl
none_read (f ∷ fs) w = absurd w

one_read : (limit n : ℕ) (fs : List (List ℕ)) → Writes ((limit, n) ∷ []) fs → one_number limit (arguments_of fs) ≡ Ok n
one_read limit n [] w = absurd w
one_read limit n (a ∷ []) w = in_line_read 2 limit a n w.0
one_read limit n (a ∷ b ∷ fs) w = absurd w.1

pair_read : (limit other x y : ℕ) (a b : List ℕ) → Numeral limit a x → Numeral other b y → both (in_line (read_field 2 limit a)) (in_line (read_field 3 other b)) ≡ Ok (x, y)
pair_read limit other x y a b p q = ap (λ r. both r (in_line (read_field 3 other b))) (in_line_read 2 limit a x p) ∙ ap (both (Ok x)) (in_line_read 3 other b y q)

two_read : (limit other x y : ℕ) (fs : List (List ℕ)) → Writes ((limit, x) ∷ (other, y) ∷ []) fs → two_numbers limit other (arguments_of fs) ≡ Ok (x, y)
two_read limit other x y [] w = absurd w
two_read limit other x y (a ∷ []) w = absurd w.1
two_read limit other x y (a ∷ b ∷ []) w = pair_read limit other x y a b w.0 w.1.0
two_read limit other x y (a ∷ b ∷ c ∷ fs) w = absurd w.1.1

share_one : (code : ℕ) (fs : List (List ℕ)) → Writes ((65535, code) ∷ []) fs → share_of (arguments_of fs) ≡ Ok (line.Share None code)
share_one code [] w = absurd w
share_one code (a ∷ []) w = ap (become (line.Share None)) (in_line_read 2 65535 a code w.0)
share_one code (a ∷ b ∷ fs) w = absurd w.1

share_two : (lag code : ℕ) (fs : List (List ℕ)) → Writes ((65535, lag) ∷ (65535, code) ∷ []) fs → share_of (arguments_of fs) ≡ Ok (line.Share (Some lag) code)
share_two lag code [] w = absurd w
share_two lag code (a ∷ []) w = absurd w.1
share_two lag code (a ∷ b ∷ []) w = ap (become (λ q. line.Share (Some q.0) q.1)) (pair_read 65535 65535 lag code a b w.0 w.1.0)
share_two lag code (a ∷ b ∷ c ∷ fs) w = absurd w.1.1

-- a line that is written of these parts is read, and its letter is no comma
Read : Program → Line → List (List ℕ) → Parts → Type 0
Read p l fs w = (w.0 ≡ 44 → ⊥) × (Writes w.1 fs → from_fields p ((w.0 ∷ []) ∷ fs) ≡ Ok l)

back : (p : Program) (l : Line) (fs : List (List ℕ)) (v w : Parts) → Some v ≡ Some w → Read p l fs v → Read p l fs w
back p l fs v w h r = let e : v ≡ w = cc in subst (Read p l fs) e r

read_parts : (p : Program) (l : Line) (fs : List (List ℕ)) (w : Parts) → parts_of p l ≡ Some w → Read p l fs w
unfolding Read
read_parts Locate (line.Map row bits) fs w h = back Locate _ fs (77, (31, row) ∷ (4294967295, bits) ∷ []) w h (eqb-false 77 44 refl, λ x. ap (become (λ q. line.Map q.0 q.1)) (two_read 31 4294967295 row bits fs x))
read_parts Lift (line.Map row bits) fs w h = cc
read_parts Locate (line.Seed value) fs w h = back Locate _ fs (71, (4294967295, value) ∷ []) w h (eqb-false 71 44 refl, λ x. ap (become line.Seed) (one_read 4294967295 value fs x))
read_parts Lift (line.Seed value) fs w h = cc
read_parts Locate (line.Record value) fs w h = cc
read_parts Lift (line.Record value) fs w h = back Lift _ fs (68, (4294967295, value) ∷ []) w h (eqb-false 68 44 refl, λ x. ap (become line.Record) (one_read 4294967295 value fs x))
read_parts p (line.Start count) fs w h = back p _ fs (83, (65535, count) ∷ []) w h (eqb-false 83 44 refl, λ x. ap (become line.Start) (one_read 65535 count fs x))
read_parts p (line.Advance command) fs w h = back p _ fs (65, (255, command) ∷ []) w h (eqb-false 65 44 refl, λ x. ap (become line.Advance) (one_read 255 command fs x))
read_parts p (line.Weigh reading) fs w h = back p _ fs (87, (255, reading) ∷ []) w h (eqb-false 87 44 refl, λ x. ap (become line.Weigh) (one_read 255 reading fs x))
read_parts p line.Resample fs w h = back p _ fs (82, []) w h (eqb-false 82 44 refl, λ x. ap (become (λ _. line.Resample)) (none_read fs x))
read_parts p (line.Share None code) fs w h = back p _ fs (69, (65535, code) ∷ []) w h (eqb-false 69 44 refl, λ x. share_one code fs x)
read_parts p (line.Share (Some lag) code) fs w h = back p _ fs (69, (65535, lag) ∷ (65535, code) ∷ []) w h (eqb-false 69 44 refl, λ x. share_two lag code fs x)
read_parts p (line.Path particle) fs w h = back p _ fs (80, (65535, particle) ∷ []) w h (eqb-false 80 44 refl, λ x. ap (become line.Path) (one_read 65535 particle fs x))
read_parts p line.Finish fs w h = back p _ fs (70, []) w h (eqb-false 70 44 refl, λ x. ap (become (λ _. line.Finish)) (none_read fs x))

read_from_form : (p : Program) (bs : List ℕ) (l : Line) → Form p l bs → line_of p bs ≡ Ok l
unfolding Read
read_from_form p bs l f =
    let w = f.parts in
    let split : fields bs ≡ (w.0 ∷ []) ∷ f.digits = ap fields f.text ∙ fields_alone (w.0 ∷ []) f.digits (((read_parts p l f.digits w f.has).0, tt), writes_lack w.1 f.digits f.numbers) in
    ap (λ t. cond t (Err TooLong) (from_fields p (fields bs))) (le-ltb 100 (length bs) f.short)
    ∙ ap (from_fields p) split
    ∙ (read_parts p l f.digits w f.has).1 f.numbers

pub lines_exact : LinesExact
lines_exact p bs l = (form_from_read p bs l, read_from_form p bs l)
