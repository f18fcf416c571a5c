use Rattle.model.specs.Trading.{rule}
use Rattle.trade.proofs.Sided.{tradable_for, trades_for}
use Rattle.trade.proofs.trading.trade.Goals as goal

pub trade_lists-requires-clause-customers : goal.trade_lists-requires-clause-customers
trade_lists-requires-clause-customers g c = tradable_for c.args.side _ c.from.ensures _ _ _ c.requires.customers

pub trade_lists-requires-clause-makers : goal.trade_lists-requires-clause-makers
trade_lists-requires-clause-makers g c = tradable_for c.args.side _ c.from.ensures _ _ _ c.requires.makers

pub trade_lists-requires-clause-firms : goal.trade_lists-requires-clause-firms
trade_lists-requires-clause-firms g c = tradable_for c.args.side _ c.from.ensures _ _ _ c.requires.firms

pub returns : goal.returns
returns g c =
    trades_for c.args.side _ c.from.ensures (rule g.M.SharingRule.shares g.M.SharingRule.next) (rule g.F.SharingRule.shares g.F.SharingRule.next)
    c.args.incoming c.args.tables.now c.args.makers_rule.now c.args.firms_rule.now c.trade_lists.ensures
