-- What a Trade works on, and how far it has come.
use Rattle.std.specs.Prelude.{◌≡◌, ℕ, ◌≤◌, List, map, length, drop}
use Rattle.kept.specs.Orders.{order_shown}
use Rattle.kept.specs.Quotes.{quote_shown}
use Rattle.kept.specs.declared.Order.{Order}
use Rattle.kept.specs.declared.Quote.{Quote}
use Rattle.model.specs.Tables.{Tables}
use Rattle.model.specs.Words.{Blocks}
use Rattle.trade.specs.declared.incoming.Incoming.{Incoming}
use Rattle.trade.specs.declared.market.Market.{Market}
use Rattle.trade.specs.declared.reached.Reached.{Reached}

-- the records of each table, the states of the two rules, and the three blocks
pub record State (S T : Type 0) : Type 0 where
  pub customers : List Order
  pub makers : List Quote
  pub firms : List Order
  pub makers_rule : S
  pub firms_rule : T
  pub blocks : Blocks

abbrev pub blocks_from : (customers makers firms : List ℕ) → Blocks
blocks_from c m f = record { customers = c; makers = m; firms = f }

abbrev pub state : {S T : Type 0} → List Order → List Quote → List Order → S → T → (customers makers firms : List ℕ) → State S T
state cs ms fs s t c m f = record { customers = cs; makers = ms; firms = fs; makers_rule = s; firms_rule = t; blocks = blocks_from c m f }

-- what lies behind the references of a market
abbrev pub state_of : {S T : Type 0} → Market S T → State S T
state_of m =
    state m.customers.now m.makers.now m.firms.now m.makers_rule.now m.firms_rule.now m.customer_block.now m.maker_block.now m.firm_block.now

-- a market still refers to the same rows, rules and blocks
pub record SameRoom {S T : Type 0} (m m' : Market S T) : Type 0 where
  pub customers : m'.customers.ghost_name ≡ m.customers.ghost_name
  pub makers : m'.makers.ghost_name ≡ m.makers.ghost_name
  pub firms : m'.firms.ghost_name ≡ m.firms.ghost_name
  pub makers_rule : m'.makers_rule.ghost_name ≡ m.makers_rule.ghost_name
  pub firms_rule : m'.firms_rule.ghost_name ≡ m.firms_rule.ghost_name
  pub customer_block : m'.customer_block.ghost_name ≡ m.customer_block.ghost_name
  pub maker_block : m'.maker_block.ghost_name ≡ m.maker_block.ghost_name
  pub firm_block : m'.firm_block.ghost_name ≡ m.firm_block.ghost_name

-- the places that a Trade has come to are inside its tables, or right behind them
pub record Inside {S T : Type 0} (a : Reached) (w : State S T) : Type 0 where
  pub customers : a.customers ≤ length w.customers
  pub makers : a.makers ≤ length w.makers
  pub firms : a.firms ≤ length w.firms

-- what the records show from the places on that a Trade has come to
abbrev pub shown_from : Reached → List Order → List Quote → List Order → Tables
shown_from a cs ms fs =
    record {
      customers = map order_shown (drop a.customers cs);
      makers = map quote_shown (drop a.makers ms);
      firms = map order_shown (drop a.firms fs);
    }

abbrev pub to_come : {S T : Type 0} → Reached → State S T → Tables
to_come a w = shown_from a w.customers w.makers w.firms

-- what all records show
abbrev pub all_shown : {S T : Type 0} → State S T → Tables
all_shown w = record { customers = map order_shown w.customers; makers = map quote_shown w.makers; firms = map order_shown w.firms }

-- where a Trade begins
abbrev pub start : Incoming → Reached
start i = record { customers = 0; makers = 0; firms = 0; left = i.size }
