use Rattle.std.proofs.Common.{get_or, sym, ◌∙◌}
use Rattle.blocks.specs.Layouts.{places_of}
use Rattle.blocks.proofs.Agreement.{written_parts}
use Rattle.blocks.proofs.Fitting.{and_on, and_off}
use Rattle.blocks.proofs.Checking.{cut_first_holders, takes_test}
use Rattle.blocks.proofs.writing.takes.Goals as goal

pub returns-then-takes_holder : goal.returns-then-takes_holder
returns-then-takes_holder c =
    let b = c.args.block.now in
    let l = c.args.layout in
    let w = sym c.if-not-is_written.ensures in
    let test = takes_test l b _ c.args.fill c.takes_holder.result c.requires w
    (cut_first_holders b (places_of l) (get_or b 0 0) (written_parts l b w).0) c.takes_holder.ensures in
    c.takes_contracts.ensures ∙ and_on c.takes_holder.result _ _ test (sym c.if-takes_holder.true)

pub returns-else-takes_holder : goal.returns-else-takes_holder
returns-else-takes_holder c =
    let b = c.args.block.now in
    let l = c.args.layout in
    let w = sym c.if-not-is_written.ensures in
    let test = takes_test l b _ c.args.fill c.takes_holder.result c.requires w
    (cut_first_holders b (places_of l) (get_or b 0 0) (written_parts l b w).0) c.takes_holder.ensures in
    c.if-takes_holder.false ∙ and_off c.takes_holder.result _ _ test (sym c.if-takes_holder.false)
