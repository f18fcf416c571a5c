use Rattle.std.proofs.Common.{refl}
use Rattle.kept.specs.Orders.{order_ranks, no_order, order_shown, order_lower}
use Rattle.kept.specs.Quotes.{quote_ranks, no_quote, quote_shown, quote_lower}
use Rattle.trade.proofs.Lasting.{settled}
use Rattle.trade.proofs.Settling.{table_left}
use Rattle.trade.proofs.Walking.{three_same}
use Rattle.trade.proofs.tables.trade_lists.Goals as goal

pub returns : goal.returns
returns g c =
    let t = c.trade_places-ended in
    let e = t.ensures in
    record {
      left = e.left;
      makers_rule = e.makers_rule;
      firms_rule = e.firms_rule;
      blocks = e.blocks;
      tables = three_same _ _ _ _ _ _ (table_left (λ x n. refl) e.customers) (table_left (λ x n. refl) e.makers) (table_left (λ x n. refl) e.firms);
      customers = settled order_ranks order_shown order_lower no_order _ _ _ (λ side x y m n. refl) e.customers (record { bound = refl; long = t.auto.customers });
      makers = settled quote_ranks quote_shown quote_lower no_quote _ _ _ (λ side x y m n. refl) e.makers (record { bound = refl; long = t.auto.makers });
      firms = settled order_ranks order_shown order_lower no_order _ _ _ (λ side x y m n. refl) e.firms (record { bound = refl; long = t.auto.firms });
    }
