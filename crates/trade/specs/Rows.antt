-- A Trade over three rows of records, and over the first records of longer rows.
use Rattle.std.specs.Prelude.{◌≡◌, ℕ, ◌-◌, ◌≤◌, List, ◌++◌, take, drop, replicate, filter}
use Rattle.blocks.specs.declared.Fill.{Fill}
use Rattle.kept.specs.Orders.{no_order, order_shown, order_lower}
use Rattle.kept.specs.Quotes.{no_quote, quote_shown, quote_lower}
use Rattle.kept.specs.Standing.{Interest}
use Rattle.kept.specs.declared.KeptList.{KeptList}
use Rattle.kept.specs.declared.Order.{Order}
use Rattle.kept.specs.declared.Quote.{Quote}
use Rattle.kept.specs.declared.Tables.{Tables as Held}
use Rattle.model.specs.Fills.{blocks_of}
use Rattle.model.specs.Trading.{Rule, Swept}
use Rattle.serving.specs.Stretch.{lower_all}
use Rattle.trade.specs.Compaction.{has_left, Compacts}
use Rattle.trade.specs.State.{State, all_shown}
use Rattle.trade.specs.Trades.{TradableRow, swept}
use Rattle.trade.specs.declared.incoming.Incoming.{Incoming}
use Rattle.trade.specs.declared.reached.Reached.{Reached}
use Rattle.trade.specs.declared.tables.Counts.{Counts}

-- each row of a state can be traded against
pub record TradableRows {S T : Type 0} (side : ℕ) (w : State S T) : Type 0 where
  pub customers : TradableRow order_shown side 64 w.customers
  pub makers : TradableRow quote_shown side 16 w.makers
  pub firms : TradableRow order_shown side 64 w.firms

-- what a Trade over all records comes to, as the model has it
abbrev pub swept_rows : {S T : Type 0} → Rule S → Rule T → (side : ℕ) → Incoming → State S T → Swept S T
swept_rows M F side i w = swept M F side i (all_shown w) w.makers_rule w.firms_rule

-- a row of places, of which the first c held records: those that have contracts left stand first, then the freed places, which are blank
pub record SettlesRow {X : Type 0} (shown : X → Interest) (lower : X → ℕ → X) (blank : X) (fs : List Fill)
    (c : ℕ) (xs : List X) (c' : ℕ) (xs' : List X) : Type 0 where
  pub few : c' ≤ c
  pub stand : take c' xs' ≡ filter (has_left shown) (lower_all shown lower fs (take c xs))
  pub rest : drop c' xs' ≡ replicate (c - c') blank ++ drop c xs

-- the rows of a state cut to their first records
abbrev pub cut_to : {S T : Type 0} → Counts → State S T → State S T
cut_to c w =
    record {
      customers = take c.customers w.customers;
      makers = take c.makers w.makers;
      firms = take c.firms w.firms;
      makers_rule = w.makers_rule;
      firms_rule = w.firms_rule;
      blocks = w.blocks;
    }

-- a Trade over all records of three rows, as x says
pub record RowsTraded {S T : Type 0} (x : Swept S T) (w : State S T) (e : Reached) (w' : State S T) : Type 0 where
  pub left : e.left ≡ x.left
  pub makers_rule : w'.makers_rule ≡ x.makers_next
  pub firms_rule : w'.firms_rule ≡ x.firms_next
  pub blocks : w'.blocks ≡ blocks_of x.given
  pub customers : Compacts order_shown no_order (lower_all order_shown order_lower x.given.customers w.customers) e.customers w'.customers
  pub makers : Compacts quote_shown no_quote (lower_all quote_shown quote_lower x.given.makers w.makers) e.makers w'.makers
  pub firms : Compacts order_shown no_order (lower_all order_shown order_lower x.given.firms w.firms) e.firms w'.firms

abbrev pub TradesRows : {S T : Type 0} → Rule S → Rule T → (side : ℕ) → Incoming → State S T → Reached → State S T → Type 0
TradesRows M F side i w e w' = RowsTraded (swept_rows M F side i w) w e w'

-- a Trade over the first records of three rows, as x says
pub record PlacesTraded {S T : Type 0} (x : Swept S T) (c : Counts) (w : State S T) (e : Reached) (w' : State S T) : Type 0 where
  pub left : e.left ≡ x.left
  pub makers_rule : w'.makers_rule ≡ x.makers_next
  pub firms_rule : w'.firms_rule ≡ x.firms_next
  pub blocks : w'.blocks ≡ blocks_of x.given
  pub customers : SettlesRow order_shown order_lower no_order x.given.customers c.customers w.customers e.customers w'.customers
  pub makers : SettlesRow quote_shown quote_lower no_quote x.given.makers c.makers w.makers e.makers w'.makers
  pub firms : SettlesRow order_shown order_lower no_order x.given.firms c.firms w.firms e.firms w'.firms

abbrev pub TradesPlaces : {S T : Type 0} → Rule S → Rule T → (side : ℕ) → Incoming → Counts → State S T → Reached → State S T → Type 0
TradesPlaces M F side i c w e w' = PlacesTraded (swept_rows M F side i (cut_to c w)) c w e w'

-- three lists, held together
abbrev pub held : KeptList Order → KeptList Quote → KeptList Order → Held
held c m f = record { customers = c; makers = m; firms = f }
