use Rattle.std.proofs.Common.{◌≡◌, ◌+◌, ◌-◌, length}
use Rattle.terms.specs.Sides.{side_number}
use Rattle.model.specs.Trading.{rule}
use Rattle.trade.specs.Level.{Ready}
use Rattle.trade.specs.Prices.{BestFirst}
use Rattle.trade.specs.State.{SameRoom, state_of, start, to_come}
use Rattle.trade.specs.Sweep.{outcome_from}
use Rattle.trade.proofs.market.Market.trade_levels.Given as goal

-- from here the Trade ends as it would have from the start
abbrev pub invariant-loop-at : goal.invariant-loop-at
invariant-loop-at g l =
    let M = rule g.M.SharingRule.shares g.M.SharingRule.next in
    let F = rule g.F.SharingRule.shares g.F.SharingRule.next in
    let side = side_number l.side in
    let w = state_of l.self in
    Ready l.at w
    × BestFirst side (to_come l.at w)
    × (outcome_from M F side l.incoming l.at w ≡ outcome_from M F side l.incoming (start l.incoming) (state_of l.initial.self))
    × SameRoom l.initial.self l.self

abbrev pub decreases-loop-at : goal.decreases-loop-at
decreases-loop-at g l =
    length l.self.customers.now + length l.self.makers.now + length l.self.firms.now - (l.at.customers + l.at.makers + l.at.firms)
