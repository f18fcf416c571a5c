use Rattle.std.proofs.Common.{◌≡◌, ◌++◌, take, drop}
use Rattle.sharing.specs.ProRata.{one_each}
use Rattle.sharing.proofs.by_size.give_one_each.Given as goal

abbrev pub invariant-loop-i : goal.invariant-loop-i
invariant-loop-i l =
    take l.i l.shares ++ one_each l.left (drop l.i l.sizes) (drop l.i l.shares) ≡ one_each l.initial.left l.sizes l.initial.shares
