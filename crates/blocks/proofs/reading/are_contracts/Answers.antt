use Rattle.std.proofs.Common.{sym, arith}
use Rattle.terms.proofs.Rows.{sum_most}
use Rattle.blocks.proofs.reading.are_contracts.Goals as goal

pub sum-requires : goal.sum-requires
sum-requires c = omega (arith, sum_most 99999 c.args.contracts.now (sym c.if-not-all_within.ensures))
