use Rattle.std.proofs.Common.{length}
use Rattle.blocks.proofs.Checking.{layout_read, room, added_ok}
use Rattle.blocks.proofs.writing.add.Goals as goal

pub add_unchecked-requires : goal.add_unchecked-requires
add_unchecked-requires c =
    room c.in_ok-layout.layout c.args.block.now c.args.fill c.places.result c.places.ensures
    (layout_read (length c.args.block.now) _ c.in_ok-layout.ensures) c.if-not-takes.ensures

pub returns-then-not-takes-clause-left : goal.returns-then-not-takes-clause-left
returns-then-not-takes-clause-left c =
    let o = layout_read (length c.args.block.now) _ c.in_ok-layout.ensures in rw (← o, ← c.if-not-takes.ensures)

pub returns : goal.returns
returns c =
    record {
      left = added_ok c.in_ok-layout.layout c.args.block.now c.add_unchecked.new.block c.args.fill c.places.result c.places.ensures
          (layout_read (length c.args.block.now) _ c.in_ok-layout.ensures) c.if-not-takes.ensures c.add_unchecked.ensures.block;
      kept = tt;
    }
