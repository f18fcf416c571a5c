use Rattle.std.proofs.Common.{length, sym, ◌∙◌, arith}
use Rattle.std.proofs.lemmas.List.{same_lists, length-replicate, get_or-replicate}
use Rattle.kept.proofs.ranked.clear.Goals as goal

pub returns : goal.returns
returns g c =
    let n = length c.args.places.now in
    same_lists c.loop-place.places _ (omega (arith, length-replicate n g.R.Ranked.cleared))
    (λ k d h. c.loop-place.invariant k d (omega arith) ∙ sym (get_or-replicate n k g.R.Ranked.cleared d (omega arith)))
