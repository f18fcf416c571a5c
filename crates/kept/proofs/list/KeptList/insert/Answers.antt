use Rattle.std.proofs.Common.{refl, arith}
use Rattle.kept.proofs.Moving.{put_in}
use Rattle.kept.proofs.Keeping.{entered}
use Rattle.kept.proofs.list.KeptList.insert.Goals as goal

pub returns : goal.returns
returns g c =
    let p = c.place_for-place.ensures in
    entered _ _ _ _ _ refl _ (g.met.R.Ranked.total c.args.side) (g.met.R.Ranked.chained c.args.side) refl
    (put_in _ _ _ _ _ c.rotate_right.ensures.after p.within (omega arith)) (omega arith) (omega arith) p.place
