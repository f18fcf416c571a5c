use Rattle.std.proofs.Common.{refl, ap, set, arith}
use Rattle.kept.proofs.Keeping.{overwritten, stands_at}
use Rattle.kept.proofs.list.KeptList.replace.Goals as goal

pub returns : goal.returns
returns g c =
    let old = c.args.self.now in
    overwritten _ _ _ _ _ refl _ refl (ap (set old.slots.now c.args.place) {x = c.replace.new.dest} c.replace.ensures.after)
    (stands_at old c.args.place c.replace.result c.index-self-place.result (omega (arith, c.len.ensures.count)) c.replace.ensures.value) g.R.Ranked.ranks
