-- A book under its two rules: what each call answers and leaves, and the day of a row of calls.
use Rattle.std.specs.Prelude.{ℕ, ◌-◌, List, [], ◌∷◌}
use Rattle.model.specs.Fills.{Fills, less, less_all, blocks_of}
use Rattle.model.specs.Prices.{prices}
use Rattle.model.specs.Refusals.{ending, unless_refused, refusal}
use Rattle.model.specs.Tables.{Tables, left_to, total, total_at, without, with_record, quoted, with_table}
use Rattle.model.specs.Trading.{Rule, Swept, at_end, sweep}
use Rattle.model.specs.Words.{maker, of, Call, enter, reduce, withdraw, quote, trade, tally, Answer, Ending, event, Row, ∅, ◌▸◌, Day}

-- a book: side, roster, tables, and the states of the makers' and the firms' rule
pub record Book (S T : Type 0) : Type 0 where
  pub side : ℕ
  pub roster : List ℕ
  pub tables : Tables
  pub makers_rule : S
  pub firms_rule : T

-- cleared tables
abbrev pub cleared : Tables
cleared = record { customers = []; makers = []; firms = [] }

-- a newly made book
abbrev pub made : {S T : Type 0} → (side : ℕ) (roster : List ℕ) → S → T → Book S T
made side roster s t = record { side = side; roster = roster; tables = cleared; makers_rule = s; firms_rule = t }

-- what a carried-out call answers; `left` and `f` are what a Trade leaves and fills.
-- Enter: the contracts of its class then at its price. Reduce: what the order has left. Withdraw: what the order had.
-- Quote: what the old quote had. Trade: contracts filled and left, and its blocks. Tally: the contracts of the class.
abbrev pub answer : (side : ℕ) (roster : List ℕ) → Tables → (left : ℕ) → Fills → (call : Call) → Answer call
answer side roster ts left f (enter class number price size) =
    total_at price (with_record side class roster number price size (of class ts))
answer side roster ts left f (reduce class number reduction) = left_to number (of class ts) - reduction
answer side roster ts left f (withdraw class number) = left_to number (of class ts)
answer side roster ts left f (quote party price size) = left_to party ts.makers
answer side roster ts left f (trade limit size directed given) = record { filled = size - left; left = left; blocks = blocks_of f }
answer side roster ts left f (tally class) = total (of class ts)

-- the tables after a carried-out call; a reduction lowers its order as a fill would
abbrev pub tables_after : (side : ℕ) (roster : List ℕ) → Tables → Fills → Call → Tables
tables_after side roster ts f (enter class number price size) =
    with_table class (with_record side class roster number price size (of class ts)) ts
tables_after side roster ts f (reduce class number reduction) =
    with_table class (less (record { holder = number; contracts = reduction } ∷ []) (of class ts)) ts
tables_after side roster ts f (withdraw class number) = with_table class (without number (of class ts)) ts
tables_after side roster ts f (quote party price size) = with_table maker (quoted side roster party price size ts.makers) ts
tables_after side roster ts f (trade limit size directed given) = less_all f ts
tables_after side roster ts f (tally class) = ts

module _ {S T : Type 0} (M : Rule S) (F : Rule T) where
  -- what a call sweeps of the book: only a Trade sweeps at all
  abbrev pub swept_by : Book S T → Call → Swept S T
  swept_by b (enter class number price size) = at_end 0 b.makers_rule b.firms_rule
  swept_by b (reduce class number reduction) = at_end 0 b.makers_rule b.firms_rule
  swept_by b (withdraw class number) = at_end 0 b.makers_rule b.firms_rule
  swept_by b (quote party price size) = at_end 0 b.makers_rule b.firms_rule
  swept_by b (trade limit size directed given) =
      sweep M F b.side limit directed b.tables (prices b.side b.tables) size b.makers_rule b.firms_rule
  swept_by b (tally class) = at_end 0 b.makers_rule b.firms_rule

  -- how a call ends
  abbrev pub ends : Book S T → (call : Call) → Ending (Answer call)
  ends b c =
      let x : Swept S T = swept_by b c in
      ending (refusal b.roster b.tables c) (answer b.side b.roster b.tables x.left x.given c)

  -- the book after a carried-out call
  abbrev pub changed : Book S T → Call → Book S T
  changed b c =
      let x : Swept S T = swept_by b c in
      record {
        side = b.side;
        roster = b.roster;
        tables = tables_after b.side b.roster b.tables x.given c;
        makers_rule = x.makers_next;
        firms_rule = x.firms_next;
      }

  -- the book after a call; turned away, it is as it was
  abbrev pub after : Book S T → Call → Book S T
  after b c = unless_refused (refusal b.roster b.tables c) (changed b c) b

  -- the book after a row of calls
  abbrev pub after_all : Book S T → Row Call → Book S T
  after_all b ∅ = b
  after_all b (cs ▸ c) = after (after_all b cs) c

  -- the day that a row of calls makes
  abbrev pub day : Book S T → Row Call → Day
  day b ∅ = ∅
  day b (cs ▸ c) = day b cs ▸ event c (ends (after_all b cs) c)
