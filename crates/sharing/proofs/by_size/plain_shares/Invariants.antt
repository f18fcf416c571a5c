use Rattle.std.proofs.Common.{◌≡◌, ◌++◌, take, drop}
use Rattle.sharing.specs.ProRata.{plain}
use Rattle.sharing.proofs.by_size.plain_shares.Given as goal

abbrev pub invariant-loop-i : goal.invariant-loop-i
invariant-loop-i l = take l.i l.out ++ plain l.number l.total (drop l.i l.sizes) ≡ plain l.number l.total l.sizes
