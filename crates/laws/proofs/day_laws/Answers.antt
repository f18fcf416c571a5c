use Rattle.laws.proofs.Whole.{the_law}
use Rattle.laws.proofs.day_laws.Goals as goal

pub returns : goal.returns
returns g c = the_law _ _ g.met.M.SharingRule.keeps g.met.F.SharingRule.keeps
