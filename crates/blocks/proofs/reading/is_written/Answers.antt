use Rattle.std.proofs.Common.{◌-◌, get_or, sym, ◌∙◌, arith}
use Rattle.blocks.specs.Layouts.{places_of}
use Rattle.blocks.proofs.Fitting.{and_on, and_off}
use Rattle.blocks.proofs.Checking.{cut_holders, cut_contracts, written_test}
use Rattle.blocks.proofs.reading.is_written.Goals as goal

pub returns-then-are_fit : goal.returns-then-are_fit
returns-then-are_fit c =
    let b = c.args.block.now in
    let k = places_of c.args.layout in
    let e = c.places-places.ensures in
    let test = written_test c.args.layout b _ _ (get_or b 0 0 - 0) c.are_fit.result c.requires (omega arith) (omega arith)
    (cut_holders b k c.places-places.result e) (cut_contracts b k c.places-places.result e c.requires) c.are_fit.ensures in
    c.are_zero_from.ensures ∙ and_on c.are_fit.result _ _ test (sym c.if-are_fit.true)

pub returns-else-are_fit : goal.returns-else-are_fit
returns-else-are_fit c =
    let b = c.args.block.now in
    let k = places_of c.args.layout in
    let e = c.places-places.ensures in
    let test = written_test c.args.layout b _ _ (get_or b 0 0 - 0) c.are_fit.result c.requires (omega arith) (omega arith)
    (cut_holders b k c.places-places.result e) (cut_contracts b k c.places-places.result e c.requires) c.are_fit.ensures in
    c.if-are_fit.false ∙ and_off c.are_fit.result _ _ test (sym c.if-are_fit.false)
