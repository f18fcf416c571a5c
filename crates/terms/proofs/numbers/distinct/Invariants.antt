use Rattle.std.proofs.Common.{◌≡◌, length}
use Rattle.terms.specs.Numbers.{distinct as no_repeats}
use Rattle.terms.proofs.numbers.distinct.Given as goal

abbrev pub invariant-loop-n : goal.invariant-loop-n
invariant-loop-n l = no_repeats l.rest ≡ no_repeats l.numbers

abbrev pub decreases-loop-n : goal.decreases-loop-n
decreases-loop-n l = length l.rest
