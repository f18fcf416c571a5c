use Rattle.std.proofs.Common.{arith}
use Rattle.terms.proofs.Rows.{sum_most}
use Rattle.sharing.specs.BySize.{plain_low}
use Rattle.sharing.proofs.pro_rata.ProRataSharingRule.share.Goals as goal

pub sum-total-requires : goal.sum-total-requires
sum-total-requires c = omega (arith, sum_most 99999 c.args.asked.sizes.now c.args.asked.valid.sized)

pub sum-requires : goal.sum-requires
sum-requires c =
    let low = plain_low c.args.asked.number c.sum-total.result c.args.asked.sizes.now c.plain_shares.new.out c.plain_shares.ensures c.sum-total.ensures c.if-asked-total.false c.args.asked.valid.sized in
    omega arith

pub overflow_sub-left : goal.overflow_sub-left
overflow_sub-left c =
    let low = plain_low c.args.asked.number c.sum-total.result c.args.asked.sizes.now c.plain_shares.new.out c.plain_shares.ensures c.sum-total.ensures c.if-asked-total.false c.args.asked.valid.sized in
    omega (arith, c.sum.ensures)
