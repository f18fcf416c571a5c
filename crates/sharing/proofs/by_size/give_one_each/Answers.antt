use Rattle.std.proofs.Common.{◌∙◌, inl, inr, arith}
use Rattle.sharing.specs.BySize.{gave_one, gave_none}
use Rattle.sharing.proofs.by_size.give_one_each.Goals as goal
use Rattle.sharing.proofs.by_size.give_one_each.Goals.{then-left-gt0+then-shares-i, else-left-gt0, else-left-gt0-via-then-left-gt0+else-shares-i, else-left-gt0-via-else-left-gt0}

pub loop-i-preserved : goal.loop-i-preserved
loop-i-preserved c =
    elim c.if-left-gt0.branch [
      | then-left-gt0+then-shares-i w ↦
          simp (w.shares-is, w.left-is)
          (gave_one c.loop-i.left c.args.sizes.now c.loop-i.shares c.loop-i.i (omega arith) (omega arith) w.if-left-gt0.true w.if-shares-i.true ∙ c.loop-i.invariant)
      | else-left-gt0 w ↦
          simp (w.shares-is, w.left-is)
          (gave_none c.loop-i.left c.args.sizes.now c.loop-i.shares c.loop-i.i (omega arith) (omega arith)
          (elim w.else-left-gt0.branch [
            | else-left-gt0-via-then-left-gt0+else-shares-i v ↦ inr v.if-shares-i.false
            | else-left-gt0-via-else-left-gt0 v ↦ inl (omega (arith, v.if-left-gt0.false))
          ]) ∙ c.loop-i.invariant)
    ]
