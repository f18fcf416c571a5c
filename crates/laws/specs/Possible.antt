-- Possible days: every call ends as the book's rules of refusal and answer say, and every Trade shares fairly, under whatever rules.
use Rattle.std.specs.Prelude.{◌≡◌, ℕ, ◌-◌, ◌<◌, cond, List, [], ◌∷◌}
use Rattle.terms.specs.Numbers.{sum}
use Rattle.sharing.specs.Rule.{Fair}
use Rattle.sharing.specs.TimeOrder.{in_time}
use Rattle.model.specs.Book.{cleared, answer, tables_after}
use Rattle.model.specs.Fills.{Fills, none, then_fills, fills_at}
use Rattle.model.specs.Make.{Accepted}
use Rattle.model.specs.Prices.{prices}
use Rattle.model.specs.Refusals.{refusal}
use Rattle.model.specs.Tables.{Tables, sizes_of}
use Rattle.model.specs.Trading.{at_level, reached}
use Rattle.model.specs.Words.{Call, enter, reduce, withdraw, quote, trade, tally, Answer, answered, refused, Event, event, ∅, ◌▸◌, Day}

-- ---- one Trade ----

-- what customers take at a price, of n that arrive
abbrev pub customers_take : (here : Tables) → (n : ℕ) → List ℕ
customers_take here n = in_time n (sizes_of here.customers)

-- one price of a Trade with n contracts: customers in time order, then makers fairly, then firms fairly; Onward is what the prices behind it
-- may do with the rest
pub record SharedAtPrice (here : Tables) (n : ℕ) (Onward : (rest : ℕ) → Fills → Type 0) (f : Fills) : Type 0 where
  pub makers_shares : List ℕ
  pub firms_shares : List ℕ
  pub later : Fills
  pub makers_fair : Fair (n - sum (customers_take here n)) (sizes_of here.makers) makers_shares
  pub firms_fair : Fair (n - sum (customers_take here n) - sum makers_shares) (sizes_of here.firms) firms_shares
  pub onward : Onward (n - sum (customers_take here n) - sum makers_shares - sum firms_shares) later
  pub filled : f ≡ then_fills (fills_at here (customers_take here n) makers_shares firms_shares) later

-- a Trade that stops with n contracts left
pub record Stops (n left : ℕ) (f : Fills) : Type 0 where
  pub all_left : left ≡ n
  pub no_fills : f ≡ none

-- a Trade's way over some prices, with n contracts: what it leaves, and its fills
abbrev pub FairSweep : (side limit : ℕ) → Tables → (prices : List ℕ) → (n left : ℕ) → Fills → Type 0
FairSweep side limit ts [] n left f = Stops n left f
FairSweep side limit ts (p ∷ ps) n left f =
    cond (reached side limit p n)
    (SharedAtPrice (at_level p ts) n (λ rest later. FairSweep side limit ts ps rest left later) f)
    (Stops n left f)

-- what a call may leave and fill: only a Trade fills at all
abbrev pub MayFill : (side : ℕ) → Tables → Call → (left : ℕ) → Fills → Type 0
MayFill side ts (enter class number price size) left f = Unit {0}
MayFill side ts (reduce class number reduction) left f = Unit {0}
MayFill side ts (withdraw class number) left f = Unit {0}
MayFill side ts (quote party price size) left f = Unit {0}
MayFill side ts (trade limit size directed given) left f = FairSweep side limit ts (prices side ts) size left f
MayFill side ts (tally class) left f = Unit {0}

-- ---- one event ----

-- a call that is carried out, from tables to tables
pub record CarriedOut (side : ℕ) (roster : List ℕ) (ts : Tables) (call : Call) (a : Answer call) (ts' : Tables) : Type 0 where
  -- what a Trade leaves and fills; no other call asks for them
  pub left : ℕ
  pub given : Fills
  -- the call is not refused, a Trade shares fairly, and the answer and the tables are as the model says
  pub not_refused : refusal roster ts call ≡ 0
  pub may_fill : MayFill side ts call left given
  pub answers : a ≡ answer side roster ts left given call
  pub next : ts' ≡ tables_after side roster ts given call

-- a call that is turned away: the tables stay
pub record TurnedAway (roster : List ℕ) (ts : Tables) (call : Call) (number : ℕ) (ts' : Tables) : Type 0 where
  pub above_zero : 0 < number
  pub refusal_is : refusal roster ts call ≡ number
  pub next : ts' ≡ ts

-- an event that leads from tables to tables
abbrev pub Leads : (side : ℕ) (roster : List ℕ) → Tables → Event → Tables → Type 0
Leads side roster ts (event call (answered a)) ts' = CarriedOut side roster ts call a ts'
Leads side roster ts (event call (refused number)) ts' = TurnedAway roster ts call number ts'

-- ---- one day ----

-- an earlier part of the day, the tables there, and the last event
pub record Then (Earlier Last : Tables → Type 0) : Type 0 where
  pub before : Tables
  pub earlier : Earlier before
  pub last : Last before

-- a day that leads from cleared tables to tables
abbrev pub ComesTo : (side : ℕ) (roster : List ℕ) → Day → Tables → Type 0
ComesTo side roster ∅ ts = ts ≡ cleared
ComesTo side roster (d ▸ e) ts = Then (λ before. ComesTo side roster d before) (λ before. Leads side roster before e ts)

-- a possible day on a side: after an accepted Make it comes to some tables
pub record PossibleDay (side : ℕ) (d : Day) : Type 0 where
  pub roster : List ℕ
  pub accepted : Accepted side roster
  pub tables : Tables
  pub comes : ComesTo side roster d tables
