-- One level, a price that a Trade has come to: its three classes served one after another.
use Rattle.std.specs.Prelude.{◌≡◌, ℕ, ◌+◌, ◌≤◌, List, length, drop}
use Rattle.blocks.specs.declared.Fill.{Fill}
use Rattle.kept.specs.Orders.{order_shown, order_lower}
use Rattle.kept.specs.Quotes.{quote_shown, quote_lower}
use Rattle.kept.specs.Standing.{Interest}
use Rattle.model.specs.Tables.{Tables}
use Rattle.model.specs.Trading.{Rule, Swept, level}
use Rattle.serving.specs.Filling.{all_filled_in}
use Rattle.serving.specs.Serving.{Servable}
use Rattle.serving.specs.Stretch.{front, here, lower_all}
use Rattle.trade.specs.State.{State, to_come}
use Rattle.trade.specs.declared.reached.Reached.{Reached}

-- each class can be served from the place on that a Trade has come to
pub record Ready {S T : Type 0} (a : Reached) (w : State S T) : Type 0 where
  pub customers : Servable order_shown w.customers a.customers 64 a.left w.blocks.customers
  pub makers : Servable quote_shown w.makers a.makers 16 a.left w.blocks.makers
  pub firms : Servable order_shown w.firms a.firms 64 a.left w.blocks.firms
  pub left : a.left ≤ 999999

-- the first records of each table that are at a price
abbrev pub fronts : (price : ℕ) → Tables → Tables
fronts p ts = record { customers = front p ts.customers; makers = front p ts.makers; firms = front p ts.firms }

-- what the level comes to, from the places on that a Trade has come to
abbrev pub level_at : {S T : Type 0} → Rule S → Rule T → (price directed : ℕ) → Reached → State S T → Swept S T
level_at M F p directed a w = level M F directed (fronts p (to_come a w)) a.left w.makers_rule w.firms_rule

-- a class served at a price with some fills: where it goes on, its records lowered, those behind as they were, and the fills in its block
pub record Filled {X : Type 0} (shown : X → Interest) (lower : X → ℕ → X) (price places : ℕ) (fs : List Fill)
    (from : ℕ) (xs : List X) (b : List ℕ) (to : ℕ) (xs' : List X) (b' : List ℕ) : Type 0 where
  pub moved : to ≡ from + length (here shown from price xs)
  pub records : xs' ≡ lower_all shown lower fs xs
  pub rest : drop to xs' ≡ drop to xs
  pub block : b' ≡ all_filled_in places fs b

-- a level served as x says, and the next one can be served
pub record LevelServed {S T : Type 0} (x : Swept S T) (price : ℕ) (a : Reached) (w : State S T) (a' : Reached) (w' : State S T) : Type 0 where
  pub left : a'.left ≡ x.left
  pub makers_rule : w'.makers_rule ≡ x.makers_next
  pub firms_rule : w'.firms_rule ≡ x.firms_next
  pub customers : Filled order_shown order_lower price 64 x.given.customers
      a.customers w.customers w.blocks.customers a'.customers w'.customers w'.blocks.customers
  pub makers : Filled quote_shown quote_lower price 16 x.given.makers
      a.makers w.makers w.blocks.makers a'.makers w'.makers w'.blocks.makers
  pub firms : Filled order_shown order_lower price 64 x.given.firms
      a.firms w.firms w.blocks.firms a'.firms w'.firms w'.blocks.firms
  pub ready : Ready a' w'

abbrev pub ServesLevel : {S T : Type 0} → Rule S → Rule T → (price directed : ℕ) → Reached → State S T → Reached → State S T → Type 0
ServesLevel M F price directed a w a' w' = LevelServed (level_at M F price directed a w) price a w a' w'
