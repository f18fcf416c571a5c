use Rattle.std.proofs.Common.{arith}
use Rattle.serving.proofs.Mapped.{mapped_is}
use Rattle.serving.proofs.gather.gather.Goals as goal

pub returns : goal.returns
returns g c = record {
  holders = mapped_is g.R.Standing.shown (λ r. r.holder) _ _ (omega arith) (λ k d h. c.loop-i.invariant.0 k d (omega arith));
  sizes = mapped_is g.R.Standing.shown (λ r. r.left) _ _ (omega arith) (λ k d h. c.loop-i.invariant.1 k d (omega arith));
}
