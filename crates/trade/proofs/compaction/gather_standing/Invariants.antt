use Rattle.std.proofs.lemmas.List.Filters.{FiltersInPlace}
use Rattle.trade.specs.Compaction.{has_left}
use Rattle.trade.proofs.compaction.gather_standing.Given as goal

abbrev pub invariant-loop-i : goal.invariant-loop-i
invariant-loop-i g l = FiltersInPlace (has_left g.R.Standing.shown) l.initial.records l.records l.count l.i
