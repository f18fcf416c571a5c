use Rattle.std.proofs.Common.{◌≡◌, false}
use Rattle.sharing.specs.Draw.{round}
use Rattle.sharing.specs.Made.{drawn}
use Rattle.sharing.proofs.Handing.{hand_out}
use Rattle.sharing.proofs.Turning.{on, to_come}
use Rattle.sharing.proofs.leftovers.give_by_turn.Given as goal

-- from here it ends as from the start
abbrev pub invariant-loop-party : goal.invariant-loop-party
invariant-loop-party l =
    let roster = drawn l.roster in
    (hand_out (on roster) l.asked.holders.now l.asked.sizes.now (to_come l.party-iterator) l.left l.state.turn l.shares
    ≡ hand_out (on roster) l.asked.holders.now l.asked.sizes.now (round l.initial.state.turn roster) l.initial.left l.initial.state.turn l.initial.shares)
    × (l.party-iterator.b_done ≡ false)
