use Rattle.std.proofs.Common.{refl, ap, ◌∙◌, arith}
use Rattle.blocks.specs.Writing.{filled_in}
use Rattle.blocks.proofs.Filling.{filled_block}
use Rattle.blocks.proofs.writing.add_unchecked.Goals as goal

pub returns : goal.returns
unfolding filled_in
returns c = record {
  writes = refl;
  block = λ fs e. ap (filled_in c.args.places c.args.fill) e ∙ filled_block c.args.places fs c.args.fill (let r = rw e at c.requires.free in omega (arith, r));
}
