use Rattle.std.proofs.Common.{◌≡◌, ◌++◌, take, drop}
use Rattle.sharing.specs.TimeOrder.{in_time}
use Rattle.sharing.proofs.time_order.TimeOrderSharingRule.share.Given as goal

abbrev pub invariant-loop-i : goal.invariant-loop-i
invariant-loop-i l = take l.i l.out ++ in_time l.left (drop l.i l.asked.sizes.now) ≡ in_time l.asked.number l.asked.sizes.now
