use Rattle.laws.proofs.Whole.{the_records_law}
use Rattle.laws.proofs.records_law.Goals as goal

pub returns : goal.returns
returns g c =
    the_records_law _ _ _ _ g.met.M.SharingRule.keeps g.met.F.SharingRule.keeps g.met.N.SharingRule.keeps g.met.G.SharingRule.keeps
