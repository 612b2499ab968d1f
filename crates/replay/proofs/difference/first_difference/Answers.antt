use Rattle.std.proofs.Common.{◌≡◌, length, min, ap, sym, ◌∙◌, rules}
use Rattle.std.proofs.lemmas.Slice.Zip.{zip_end}
use Rattle.replay.specs.Differences.{differs_in}
use Rattle.replay.proofs.Differing.{ends, same_from_none, none_at_same}
use Rattle.replay.proofs.difference.first_difference.Goals as goal

pub returns : goal.returns
returns c =
    let xs = c.args.got.now in
    let ys = c.args.wanted.now in
    let n : length c.loop-have.yielded ≡ min (length xs) (length ys) = zip_end xs ys c.loop-have.yielded c.into_iter-have-iterator.result c.loop-have.have-iterator c.next.new.self c.next.result (search rules) (search rules) c.loop-have.yielded_by c.in-None.is c.next.ensures.steps in
    let last = ends c.loop-have.line xs ys (length c.loop-have.yielded) n in
    let value : c.then_some.result ≡ differs_in 1 xs ys = search (rules, last) in
    record {
      value = value;
      exact = (λ h. same_from_none 1 _ _ (sym value ∙ h), λ e. value ∙ ap (λ l. differs_in 1 l ys) e ∙ none_at_same 1 ys);
    }
