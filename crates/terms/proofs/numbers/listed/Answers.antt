use Rattle.std.proofs.Common.{◌∙◌}
use Rattle.terms.proofs.Rows.{listed_any}
use Rattle.terms.proofs.numbers.listed.Goals as goal

pub returns : goal.returns
returns c = c.contains.ensures.value ∙ listed_any c.args.numbers.now c.args.n
