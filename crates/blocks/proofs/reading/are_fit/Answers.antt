use Rattle.std.proofs.Common.{sym, ◌∙◌}
use Rattle.blocks.proofs.Fitting.{fit_beside}
use Rattle.blocks.proofs.reading.are_fit.Goals as goal

pub returns-then-are_holders : goal.returns-then-are_holders
returns-then-are_holders c =
    let same = fit_beside c.args.layout c.args.holders.now c.args.contracts.now c.args.total c.requires.0 c.requires.1 in
    c.are_contracts.ensures ∙ sym (same ∙ rw (sym c.if-are_holders.ensures))

pub returns-else-are_holders : goal.returns-else-are_holders
returns-else-are_holders c =
    let same = fit_beside c.args.layout c.args.holders.now c.args.contracts.now c.args.total c.requires.0 c.requires.1 in
    c.if-are_holders.false ∙ sym (same ∙ rw (sym c.if-are_holders.ensures))
