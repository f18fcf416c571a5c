use Rattle.std.proofs.Common.{◌∷◌, ◌++◌, drop, take, refl, ap, ◌∙◌, arith}
use Rattle.std.specs.List.{remove}
use Rattle.kept.proofs.Moving.{taken_out}
use Rattle.kept.proofs.Keeping.{left, stands_at}
use Rattle.kept.proofs.list.KeptList.remove.Goals as goal

pub returns : goal.returns
returns g c =
    let old = c.args.self.now in
    let slots = old.slots.now in
    let place = c.args.place in
    let n = c.len-count.result in
    let is = c.len-count.ensures in
    let cleared = ap (λ b. remove (take n slots) place ++ b ∷ drop n slots) c.blank.ensures in
    left _ _ _ _ _ refl n refl (taken_out slots place n _ _ c.rotate_left.ensures.after (omega arith) is.within ∙ cleared) (omega arith) is.count is.within is.same
    (stands_at old place _ c.index-self-place.result (omega (arith, is.count)) refl) g.R.Ranked.ranks
