use Rattle.kept.proofs.Entering.{orderly}
use Rattle.kept.proofs.laws.insertion_law.Goals as goal

pub returns : goal.returns
returns g c = orderly
