use Rattle.std.proofs.Common.{◌∙◌, sym, arith}
use Rattle.terms.specs.Sides.{side_number}
use Rattle.model.specs.Trading.{rule}
use Rattle.trade.specs.State.{state_of}
use Rattle.trade.proofs.Going.{none_left, none_ahead, none_reached, sweeps, level_on, fewer, same_again}
use Rattle.trade.proofs.market.Market.trade_levels.Goals as goal

pub returns-clause-sweeps : goal.returns-clause-sweeps
returns-clause-sweeps g c =
    let M = rule g.M.SharingRule.shares g.M.SharingRule.next in
    let F = rule g.F.SharingRule.shares g.F.SharingRule.next in
    let l = c.loop-at in
    let w = state_of l.self in
    sweeps M F (side_number c.args.side) c.args.incoming _ l.at w l.invariant.0 l.invariant.2 (none_left M F (side_number c.args.side) c.args.incoming l.at w (omega arith))

pub returns-in_default-clause-sweeps : goal.returns-in_default-clause-sweeps
returns-in_default-clause-sweeps g c =
    let M = rule g.M.SharingRule.shares g.M.SharingRule.next in
    let F = rule g.F.SharingRule.shares g.F.SharingRule.next in
    let l = c.loop-at in
    let w = state_of l.self in
    sweeps M F (side_number c.args.side) c.args.incoming _ l.at w l.invariant.0 l.invariant.2
    (none_ahead M F (side_number c.args.side) c.args.incoming l.at w (sym c.in_default.is ∙ c.best_ahead.ensures))

pub returns-then-better-clause-sweeps : goal.returns-then-better-clause-sweeps
returns-then-better-clause-sweeps g c =
    let M = rule g.M.SharingRule.shares g.M.SharingRule.next in
    let F = rule g.F.SharingRule.shares g.F.SharingRule.next in
    let l = c.loop-at in
    let w = state_of l.self in
    sweeps M F (side_number c.args.side) c.args.incoming _ l.at w l.invariant.0 l.invariant.2
    (none_reached M F (side_number c.args.side) c.args.incoming c.in-Some.price l.at w (sym c.in-Some.is ∙ c.best_ahead.ensures) l.invariant.1 c.if-better.ensures)

pub loop-at-preserved : goal.loop-at-preserved
loop-at-preserved g c =
    let M = rule g.M.SharingRule.shares g.M.SharingRule.next in
    let F = rule g.F.SharingRule.shares g.F.SharingRule.next in
    let l = c.loop-at in
    let s = c.serve_level-at in
    let on = level_on M F (side_number c.args.side) c.args.incoming c.in-Some.price l.at (state_of l.self) s.result (state_of s.new.self)
    (sym c.in-Some.is ∙ c.best_ahead.ensures) l.invariant.1 c.if-better.ensures c.loop-at-test.true s.ensures.serves in
    (s.ensures.serves.ready, on.1, on.0 ∙ l.invariant.2, same_again _ _ _ l.invariant.3 s.ensures.same)

pub loop-at-smaller : goal.loop-at-smaller
loop-at-smaller g c =
    let M = rule g.M.SharingRule.shares g.M.SharingRule.next in
    let F = rule g.F.SharingRule.shares g.F.SharingRule.next in
    let l = c.loop-at in
    let s = c.serve_level-at in
    let on = level_on M F (side_number c.args.side) c.args.incoming c.in-Some.price l.at (state_of l.self) s.result (state_of s.new.self)
    (sym c.in-Some.is ∙ c.best_ahead.ensures) l.invariant.1 c.if-better.ensures c.loop-at-test.true s.ensures.serves in
    fewer _ _ l.at (state_of l.self) s.result (state_of s.new.self) s.ensures.serves on.2
