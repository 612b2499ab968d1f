-- An exercise that has a total is worked out to its end. Assumes nothing.
use Rattle.std.proofs.Common.{◌≡◌, ℕ, ◌^◌, ◌<◌, Bool, true, cond, ◌&&◌, List, length, Ok, Err, sym, ap, ◌∙◌, subst, arith}
use Rattle.std.proofs.lemmas.List.FromFn.{length-map-range_with_len}
use Rattle.std.proofs.lemmas.Bool.{le-leb, and_from}
use Rattle.refusals.specs.declared.Refusal.TheVariants.{OutOfRange, NoRoom}
use Rattle.resampling.specs.Marks as marks
use Rattle.resampling.specs.Marks.{total, offset, parent}
use Rattle.resampling.specs.Children.{children_of_each}
use Rattle.resampling.specs.Systematic.{Systematic}
use Rattle.resampling.specs.Calls.{in_range, all_below, total_of, fitting, children_reply}
use Rattle.resampling.proofs.Owners.{offset_below}
use Rattle.resampling.proofs.Shares.{systematic, parents_below}
use Rattle.resampling.proofs.Replies.{total_granted}
use Rattle.exercise.specs.Answers.{in_call, parents_of, children_of}

module _ (ws : List ℕ) (r w : ℕ) (small : r < 2 ^ 32) (told : Ok w ≡ total_of ws) where
  pub the_parents : (ps : List ℕ) → parents_of ws r ≡ Ok ps → ps ≡ marks.parents ws (offset r w)
  the_parents ps e =
      let same : Ok ps ≡ in_call (λ x. marks.parents ws (offset r x)) (Ok w) = sym e ∙ ap (in_call (λ x. marks.parents ws (offset r x))) (sym told) in
      cc

  inside : offset r w < total ws
  inside =
      let granted = total_granted ws w told in
      let same : w ≡ total ws = granted.2 in
      subst (λ (x : ℕ). offset r x < total ws) (sym same) (offset_below r (total ws) granted.1 small)

  pub the_children : (ps : List ℕ) → parents_of ws r ≡ Ok ps → children_of ps ≡ Ok (children_of_each (marks.parents ws (offset r w)))
  the_children ps e =
      let qs : List ℕ = marks.parents ws (offset r w) in
      let long : length qs ≡ length ws = length-map-range_with_len (parent ws (offset r w)) 0 (length ws) in
      let range : in_range (length qs) ≡ true = ap in_range long ∙ (total_granted ws w told).0 in
      let known : (in_range (length qs) && all_below (length qs) qs) ≡ true = and_from _ _ range (parents_below ws (offset r w) inside) in
      let fits : fitting (length qs) (length qs) ≡ Ok (length qs) = ap (λ (t : Bool). cond t (Ok (length qs)) (Err NoRoom)) (le-leb (length qs) (length qs) (omega arith)) in
      let reply : children_reply qs (length qs) ≡ Ok (length qs) = ap (λ (t : Bool). cond t (fitting (length qs) (length qs)) (Err OutOfRange)) known ∙ fits in
      ap children_of (the_parents ps e) ∙ ap (in_call (λ _. children_of_each qs)) reply

  -- and they are those of systematic resampling
  pub parents_systematic : (o : ℕ) (ps : List ℕ) → o ≡ offset r w → parents_of ws r ≡ Ok ps → Systematic ws o ps
  parents_systematic o ps at e = rw (at, the_parents ps e) (systematic ws (offset r w) inside)
