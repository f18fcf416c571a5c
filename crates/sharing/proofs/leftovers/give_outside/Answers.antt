use Rattle.std.proofs.Common.{sym, refl, ◌∙◌, inl, inr, arith}
use Rattle.sharing.specs.Made.{drawn}
use Rattle.sharing.specs.Counts.{distinct_single}
use Rattle.sharing.proofs.Turning.{outside_gives, outside_passes, outsiders}
use Rattle.sharing.proofs.leftovers.give_outside.Goals as goal
use Rattle.sharing.proofs.leftovers.give_outside.Goals.{then-left-gt0+then-not-has+then-give_one, else-left-gt0, else-left-gt0-via-then-left-gt0+then-not-has+else-give_one, else-left-gt0-via-then-left-gt0+else-not-has, else-left-gt0-via-else-left-gt0}

pub loop-holder-preserved : goal.loop-holder-preserved
loop-holder-preserved c =
    let passes = outside_passes (drawn c.args.roster.now) c.args.asked.holders.now c.args.asked.sizes.now c.loop-holder.holder-index _ c.loop-holder-test.true refl c.loop-holder.left c.loop-holder.shares in
    elim c.if-left-gt0.branch [
      | then-left-gt0+then-not-has+then-give_one w ↦
          simp (w.shares-is, w.left-is)
          (outside_gives (drawn c.args.roster.now) c.args.asked.holders.now c.args.asked.sizes.now c.loop-holder.holder-index _ c.loop-holder-test.true refl
          c.loop-holder.left c.loop-holder.shares w.give_one.new.shares w.if-left-gt0.true (sym w.if-not-has.ensures) (sym w.if-give_one.ensures.gave) w.if-give_one.ensures.shares
          ∙ c.loop-holder.invariant)
      | else-left-gt0 w ↦
          elim w.else-left-gt0.branch [
            | else-left-gt0-via-then-left-gt0+then-not-has+else-give_one v ↦
                simp (w.shares-is, v.shares-is, v.if-give_one.ensures.shares, w.left-is) (passes (inr (inr (sym v.if-give_one.ensures.gave))) ∙ c.loop-holder.invariant)
            | else-left-gt0-via-then-left-gt0+else-not-has v ↦
                simp (w.shares-is, v.shares-is, w.left-is) (passes (inr (inl (sym v.if-not-has.ensures))) ∙ c.loop-holder.invariant)
            | else-left-gt0-via-else-left-gt0 v ↦
                simp (w.shares-is, v.shares-is, w.left-is) (passes (inl (omega (arith, v.if-left-gt0.false))) ∙ c.loop-holder.invariant)
          ]
    ]

pub returns : goal.returns
returns c =
    outsiders (drawn c.args.roster.now) c.args.asked.holders.now c.args.asked.sizes.now c.loop-holder.holder-index c.args.left c.args.shares.now c.loop-holder.left c.loop-holder.shares
    (distinct_single c.args.asked.holders.now c.args.asked.valid.once) c.loop-holder-test.false c.args.asked.valid.paired (c.requires ∙ c.args.asked.valid.paired) c.loop-holder.invariant
