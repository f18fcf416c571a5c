use Rattle.std.proofs.Common.{◌≡◌, drop}
use Rattle.sharing.specs.Draw.{outside}
use Rattle.sharing.specs.Made.{drawn}
use Rattle.sharing.proofs.Handing.{hand_out}
use Rattle.sharing.proofs.Turning.{stays}
use Rattle.sharing.proofs.leftovers.give_outside.Given as goal

-- from here it ends as from the start
abbrev pub invariant-loop-holder : goal.invariant-loop-holder
invariant-loop-holder l =
    hand_out stays l.asked.holders.now l.asked.sizes.now (outside (drop l.holder-index l.asked.holders.now) (drawn l.roster)) l.left 0 l.shares
    ≡ hand_out stays l.asked.holders.now l.asked.sizes.now (outside l.asked.holders.now (drawn l.roster)) l.initial.left 0 l.initial.shares
