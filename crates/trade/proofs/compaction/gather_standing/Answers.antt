use Rattle.std.proofs.Common.{ltb, sym, ap, ◌∙◌, arith}
use Rattle.std.proofs.lemmas.List.Filters.{FiltersInPlace-more_no, FiltersInPlace-more_set}
use Rattle.std.proofs.lemmas.Bool.{lt-ltb, le-ltb}
use Rattle.trade.proofs.compaction.gather_standing.Goals as goal
use Rattle.trade.proofs.compaction.gather_standing.Goals.{then-left-gt0, else-left-gt0}

pub loop-i-preserved : goal.loop-i-preserved
loop-i-preserved g c =
    elim c.if-left-gt0.branch [
      | then-left-gt0 w ↦
          rw (w.records-is, w.count-is) (FiltersInPlace-more_set c.loop-i.invariant (omega arith)
          (ap (ltb 0) (sym c.left.ensures) ∙ lt-ltb 0 c.left.result w.if-left-gt0.true) c.index-records-i.is)
      | else-left-gt0 w ↦
          rw (w.records-is, w.count-is) (FiltersInPlace-more_no c.loop-i.invariant (omega arith)
          (ap (ltb 0) (sym c.left.ensures) ∙ le-ltb 0 c.left.result w.if-left-gt0.false) c.index-records-i.is)
    ]
