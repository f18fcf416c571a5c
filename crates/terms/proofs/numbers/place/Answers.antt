use Rattle.std.proofs.Common.{ap, length, unwrap_or, ◌∙◌}
use Rattle.terms.proofs.Rows.{place_or_end}
use Rattle.terms.proofs.numbers.place.Goals as goal

pub returns-clause-place : goal.returns-clause-place
returns-clause-place c =
    let xs = c.args.numbers.now in
    ap (λ found. unwrap_or found (length xs)) c.first_equal.ensures ∙ place_or_end xs c.args.n
