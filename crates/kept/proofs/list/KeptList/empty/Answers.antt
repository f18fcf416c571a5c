use Rattle.std.proofs.Common.{◌++◌, drop, replicate, refl, ap, ◌∙◌}
use Rattle.std.proofs.lemmas.List.{length-take-le}
use Rattle.kept.proofs.Keeping.{made}
use Rattle.kept.proofs.list.KeptList.empty.Goals as goal

pub returns : goal.returns
returns g c =
    let lent = c.args.slots.now in
    let bound = c.args.bound in
    let all = c.clear.ensures ∙ ap (λ n. replicate n g.R.Ranked.cleared) (length-take-le bound lent c.requires) in
    made _ _ _ c.requires (ap (λ l. l ++ drop bound lent) all) refl
