use Rattle.std.proofs.Common.{ap, length, arith}
use Rattle.terms.specs.Numbers.{sum}
use Rattle.serving.proofs.Counting.{room_filled}
use Rattle.serving.proofs.Entering.{enter_some}
use Rattle.serving.proofs.fills.enter_fills.Goals as goal

pub loop-record-preserved-then-contracts-gt0 : goal.loop-record-preserved-then-contracts-gt0
loop-record-preserved-then-contracts-gt0 g c =
    let step = c.in-Some.ensures.steps in
    let l = c.loop-record in
    let s = ap sum step.1 in
    let n = ap length step.0 in
    let m = ap length step.1 in
    let left = l.invariant.1 in
    let within = l.invariant.2 in
    let paired = l.invariant.3 in (
      enter_some g.R.Standing.shown c.args.places _ _ _ _ _ _ _ _ _ _ step.0 step.1 c.if-contracts-gt0.true c.holder-holder.ensures c.add_unchecked.ensures.writes l.invariant.0,
      omega arith,
      omega arith,
      omega arith,
      room_filled c.args.places _ l.left _ _ _ l.block _ l.invariant.4 c.add_unchecked.ensures.writes (omega arith) (omega arith),
    )
