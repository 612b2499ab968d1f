-- A cloud with no particle represents the fresh filter, and runs begin with it.
use Rattle.std.proofs.Common.{◌≡◌, ℕ, zero, suc, ◌+◌, min, true, List, [], ◌++◌, length, get_or, drop, replicate, None, sum_by, Option, sym, refl, ap, ◌∙◌, ⊎_elim, arith}
use Rattle.std.proofs.lemmas.List.{drop_all, drop_at, nil_from_length}
use Rattle.std.proofs.lemmas.Bool.{cases_lt}
use Rattle.sources.specs.Supplies.{Supply, Lawful}
use Rattle.filter.specs.declared.phase.Phase.TheVariants.{Empty}
use Rattle.filter.specs.Filters.{fresh}
use Rattle.filter.proofs.Grants.{empty_not_weighed}
use Rattle.filter.proofs.Sounds.{fresh_sound}
use Rattle.cloud.specs.declared.node.Node.{Node}
use Rattle.cloud.specs.Links.{links, states}
use Rattle.cloud.specs.Trees.{is_node, is_named, Tree}
use Rattle.cloud.specs.Tracks.{named}
use Rattle.cloud.specs.Representations.{View, Alike, Represents, SomeFilter}
use Rattle.cloud.specs.Promises.{LedTo, Begins}
use Rattle.cloud.proofs.Trees.{tree_same}
use Rattle.cloud.proofs.Ancestries.{run_ancestry}

none_held : (k n : ℕ) → sum_by (λ o. is_named o n) (replicate k None) ≡ 0
none_held zero n = refl
none_held (suc k) n = none_held k n

none_alike : {S : Type 0} (xs : List (Node S)) (serial : ℕ → ℕ) (k j : ℕ) → Alike (links xs) (states xs) serial (get_or (replicate k None) j None) (get_or (replicate k None) j None)
none_alike xs serial zero j = tt
none_alike xs serial (suc k) zero = tt
none_alike xs serial (suc k) (suc j) = none_alike xs serial k j

-- what is left of the lent nodes behind those that the tree uses
pub rest_of_lent : {X : Type 0} (xs front rest : List X) (n : ℕ) → xs ≡ front ++ rest → length front ≡ n → length rest + n ≡ length xs → n ≡ min (length xs) 65536 → rest ≡ drop 65536 xs
rest_of_lent xs front rest n e len size least =
    ⊎_elim
    (λ l. nil_from_length rest (omega arith) ∙ sym (drop_all 65536 xs (omega arith)))
    (λ l. sym (drop_at front rest 65536 (omega arith)) ∙ ap (drop 65536) (sym e))
    (cases_lt (length xs) 65536)

-- a source of zeros
zeros : Supply
zeros = record { to_come = λ k. 0; can = λ n. true }

zeros_lawful : Lawful zeros
unfolding zeros
zeros_lawful = record { none = refl; fewer = λ n h. refl; below = λ k. omega arith }

module _ {S : Type 0} (xs : List (Node S)) (head : Option ℕ) (free : ℕ) (tips weights : List ℕ) (bare : tips ≡ []) (stamp brought : ℕ) (size : length xs ≡ min brought 65536) (law : (serial : ℕ → ℕ) → Tree (links xs) head free (λ _. 0) serial 0) where
  -- the parts as the maker leaves them
  abbrev pub made : View S
  made = record {
    nodes = xs;
    head = head;
    free = free;
    tips = tips;
    weights = weights;
    holds = replicate 16 None;
    phase = Empty;
    round = 0;
    stamp = stamp;
  }

  pub made_represents : (node : ℕ → ℕ) (q : Supply) → Lawful q → Represents node made (fresh brought stamp q)
  made_represents node q lawful =
      let t = law (λ n. n) in
      record {
        sound = fresh_sound brought stamp q lawful;
        serial = λ n. n;
        tree = tree_same (links xs) head free (λ _. 0) (named tips (replicate 16 None)) (λ n. n) 0 (λ k. let z : sum_by (is_node k) tips ≡ 0 = ap (sum_by (is_node k)) bare in omega (arith, none_held 16 k)) t;
        inverse = λ k l c. absurd (omega (arith, t.past k l c));
        number = sym (ap length bare);
        paths_are = λ i l. absurd (omega (arith, ap length bare));
        sixteen = refl;
        places_are = λ j l. none_alike xs (λ n. n) 16 j;
        phase = refl;
        round = refl;
        stamp = refl;
        room = sym size;
        weights = λ e. absurd (empty_not_weighed e);
      }

  pub made_some : SomeFilter made
  made_some = ∣ (λ k. k, fresh brought stamp zeros, made_represents (λ k. k) zeros zeros_lawful) ∣₁

  pub made_begins : Begins brought stamp made
  made_begins m node q lawful =
      let led : LedTo m (fresh brought stamp q) [] node made q = record { told = tt; represents = made_represents node q lawful; source = refl } in
      (led, run_ancestry S m brought stamp q lawful [] node made q led)
