use Rattle.std.proofs.Common.{◌∙◌}
use Rattle.blocks.proofs.Parts.{nth_beside, no_holder, no_contracts}
use Rattle.blocks.proofs.reading.Written.fill.Goals as goal

pub returns-in_err-holder : goal.returns-in_err-holder
returns-in_err-holder c =
    c.from_residual.ensures
    ∙ no_holder c.args.self.now.holders.now c.args.self.now.contracts.now c.args.i c.in_err-holder.ensures.lookup.3

pub returns-in_err-contracts : goal.returns-in_err-contracts
returns-in_err-contracts c =
    c.from_residual-in_err-contracts.ensures
    ∙ no_contracts c.args.self.now.holders.now c.args.self.now.contracts.now c.args.i c.in_err-contracts.ensures.lookup.3

pub returns : goal.returns
returns c =
    let h = c.in_ok-holder.ensures.lookup.3 in
    let n = c.in_ok-contracts.ensures.lookup.3 in
    rw (h.1 0, n.1 0) (nth_beside c.args.self.now.holders.now c.args.self.now.contracts.now c.args.i h.0 n.0)
