use Rattle.std.proofs.Common.{ap}
use Rattle.kept.specs.Orders.{no_order, order_shown}
use Rattle.kept.specs.Quotes.{no_quote, quote_shown}
use Rattle.trade.specs.State.{state_of}
use Rattle.trade.proofs.Settling.{block_made, compacts_as}
use Rattle.trade.proofs.Walking.{three_same}
use Rattle.trade.proofs.market.Market.trade.Goals as goal

pub returns-clause-trades : goal.returns-clause-trades
returns-clause-trades g c =
    let t = c.trade_levels-left in
    let w = state_of t.new.self in
    let o = t.ensures.sweeps.outcome in
    let long = c.requires.blocks in
    record {
      left = ap (λ z. z.left) o;
      makers_rule = ap (λ z. z.state.makers_rule) o;
      firms_rule = ap (λ z. z.state.firms_rule) o;
      blocks = three_same _ _ _ _ _ _
          (block_made 64 _ c.blank.new.block w.blocks.customers (c.blank.ensures.block 64 long.customers) (ap (λ z. z.state.blocks.customers) o) t.ensures.sweeps.customers)
          (block_made 16 _ c.blank-2.new.block w.blocks.makers (c.blank-2.ensures.block 16 long.makers) (ap (λ z. z.state.blocks.makers) o) t.ensures.sweeps.makers)
          (block_made 64 _ c.blank-3.new.block w.blocks.firms (c.blank-3.ensures.block 64 long.firms) (ap (λ z. z.state.blocks.firms) o) t.ensures.sweeps.firms);
      customers = compacts_as order_shown no_order w.customers _ c.compact.result c.compact.new.records (ap (λ z. z.state.customers) o) c.compact.ensures;
      makers = compacts_as quote_shown no_quote w.makers _ c.compact-2.result c.compact-2.new.records (ap (λ z. z.state.makers) o) c.compact-2.ensures;
      firms = compacts_as order_shown no_order w.firms _ c.compact-3.result c.compact-3.new.records (ap (λ z. z.state.firms) o) c.compact-3.ensures;
    }
