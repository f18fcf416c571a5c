use Rattle.std.proofs.Common.{◌≡◌, ◌+◌, ◌^◌, ◌<◌, fold, arith, rules}
use Rattle.terms.specs.Numbers as row
use Rattle.terms.proofs.Rows.{sum_folded}
use Rattle.terms.proofs.numbers.sum.Goals as goal

pub sum-requires : goal.sum-requires
sum-requires c =
    let fits : fold (λ a x. a + x) 0 c.args.numbers.now < 2 ^ 32 = omega (arith, sum_folded 0 c.args.numbers.now) in search rules

pub returns : goal.returns
returns c =
    let e : fold (λ a x. a + x) 0 c.args.numbers.now ≡ row.sum c.args.numbers.now = omega (arith, sum_folded 0 c.args.numbers.now) in
    search rules
