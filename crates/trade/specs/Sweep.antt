-- A Trade over the levels of three tables: what it ends in, from the places on that it has come to.
use Rattle.std.specs.Prelude.{◌≡◌, ℕ, ◌≤◌}
use Rattle.blocks.specs.Reading.{count_in}
use Rattle.kept.specs.Orders.{order_shown, order_lower}
use Rattle.kept.specs.Quotes.{quote_shown, quote_lower}
use Rattle.model.specs.Fills.{Fills}
use Rattle.model.specs.Prices.{prices}
use Rattle.model.specs.Tables.{Tables}
use Rattle.model.specs.Trading.{Rule, Swept, sweep}
use Rattle.model.specs.Words.{Blocks}
use Rattle.serving.specs.Filling.{all_filled_in}
use Rattle.serving.specs.Stretch.{lower_all}
use Rattle.trade.specs.State.{State, blocks_from, start, to_come}
use Rattle.trade.specs.declared.incoming.Incoming.{Incoming}
use Rattle.trade.specs.declared.reached.Reached.{Reached}

-- a Trade over whole tables, with so many contracts to go
abbrev pub swept_with : {S T : Type 0} → Rule S → Rule T → (side : ℕ) → Incoming → (n : ℕ) → Tables → S → T → Swept S T
swept_with M F side i n ts s t = sweep M F side i.limit i.directed ts (prices side ts) n s t

-- the blocks after some fills
abbrev pub blocks_with : Fills → Blocks → Blocks
blocks_with f b =
    blocks_from (all_filled_in 64 f.customers b.customers) (all_filled_in 16 f.makers b.makers) (all_filled_in 64 f.firms b.firms)

-- the contracts left, and the state, where no record has left its table yet
pub record Outcome (S T : Type 0) : Type 0 where
  pub left : ℕ
  pub state : State S T

abbrev pub outcome : {S T : Type 0} → (left : ℕ) → State S T → Outcome S T
outcome n w = record { left = n; state = w }

-- the outcome where a Trade comes to these fills and next states
abbrev pub ends_in : {S T : Type 0} → Swept S T → State S T → Outcome S T
ends_in x w =
    outcome x.left (record {
      customers = lower_all order_shown order_lower x.given.customers w.customers;
      makers = lower_all quote_shown quote_lower x.given.makers w.makers;
      firms = lower_all order_shown order_lower x.given.firms w.firms;
      makers_rule = x.makers_next;
      firms_rule = x.firms_next;
      blocks = blocks_with x.given w.blocks;
    })

-- the outcome from the places on that a Trade has come to
abbrev pub outcome_from : {S T : Type 0} → Rule S → Rule T → (side : ℕ) → Incoming → Reached → State S T → Outcome S T
outcome_from M F side i a w = ends_in (swept_with M F side i a.left (to_come a w) w.makers_rule w.firms_rule) w

-- the whole Trade: its outcome is that from the start, and no block shows more fills than it has places
pub record Sweeps {S T : Type 0} (M : Rule S) (F : Rule T) (side : ℕ) (i : Incoming) (w : State S T) (n : ℕ) (w' : State S T) : Type 0 where
  pub outcome : outcome n w' ≡ outcome_from M F side i (start i) w
  pub customers : count_in w'.blocks.customers ≤ 64
  pub makers : count_in w'.blocks.makers ≤ 16
  pub firms : count_in w'.blocks.firms ≤ 64
