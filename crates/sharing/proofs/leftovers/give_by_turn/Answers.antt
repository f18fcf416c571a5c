use Rattle.std.proofs.Common.{sym, ◌∙◌, inl, inr, arith}
use Rattle.sharing.specs.Made.{drawn}
use Rattle.sharing.specs.Counts.{distinct_single}
use Rattle.sharing.specs.Rosters.{roster_once}
use Rattle.sharing.proofs.Turning.{next_of_both, end_of_both, turn_gives, turn_passes, turned}
use Rattle.sharing.proofs.leftovers.give_by_turn.Goals as goal
use Rattle.sharing.proofs.leftovers.give_by_turn.Goals.{else-left-gt0-via-then-left-gt0+else-give_one, else-left-gt0-via-else-left-gt0}

pub loop-party-preserved-then-give_one : goal.loop-party-preserved-then-give_one
loop-party-preserved-then-give_one c =
    let l = c.loop-party in
    let next = next_of_both l.party-iterator c.next.new.self l.invariant.1 c.in-Some.field-0 c.in-Some.ensures.steps in (
      turn_gives (drawn c.args.roster.now) c.args.asked.holders.now c.args.asked.sizes.now _ _ _ next l.left l.state.turn l.shares c.behind-state.result c.give_one.new.shares
          c.if-left-gt0.true (sym c.if-give_one.ensures.gave) c.behind-state.ensures c.if-give_one.ensures.shares ∙ l.invariant.0,
      c.in-Some.ensures.steps.0 ∙ l.invariant.1,
    )

pub loop-party-preserved : goal.loop-party-preserved
loop-party-preserved c =
    let l = c.loop-party in
    let next = next_of_both l.party-iterator c.next.new.self l.invariant.1 c.in-Some.field-0 c.in-Some.ensures.steps in
    let passes = turn_passes (drawn c.args.roster.now) c.args.asked.holders.now c.args.asked.sizes.now _ _ _ next l.left l.state.turn l.shares in (
      elim c.else-left-gt0.branch [
        | else-left-gt0-via-then-left-gt0+else-give_one w ↦ simp (w.shares-is, w.if-give_one.ensures.shares) (passes (inr (sym w.if-give_one.ensures.gave)) ∙ l.invariant.0)
        | else-left-gt0-via-else-left-gt0 w ↦ simp w.shares-is (passes (inl (omega (arith, w.if-left-gt0.false))) ∙ l.invariant.0)
      ],
      c.in-Some.ensures.steps.0 ∙ l.invariant.1,
    )

pub returns : goal.returns
returns c =
    let l = c.loop-party in
    let done = end_of_both l.party-iterator c.next.new.self l.invariant.1 c.in-None.ensures.steps in
    turned (drawn c.args.roster.now) c.args.asked.holders.now c.args.asked.sizes.now c.args.state.now.turn c.args.left c.args.shares.now l.left l.state.turn l.shares
    (distinct_single (drawn c.args.roster.now) (roster_once c.args.roster.now)) (c.requires.room ∙ c.args.asked.valid.paired) (rw done at l.invariant.0)
