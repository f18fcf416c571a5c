-- The customers' side of a day: what it shows of them, and the record that is kept.
use Rattle.std.specs.Prelude.{ℕ, zero, suc, ◌+◌, ◌-◌, min, cond, List, [], ◌∷◌, ◌==◌}
use Rattle.blocks.specs.Reading.{count_in}
use Rattle.kept.specs.Ranked.{no_worse}
use Rattle.model.specs.Standing.{standing_at, standing_better}
use Rattle.model.specs.Words.{customer, maker, firm, Call, enter, reduce, withdraw, quote, trade, tally, Ending, answered, refused, event, Row, ∅, ◌▸◌, Day}

-- ---- the customer parts of a Trade ----

-- what a Trade brings to a price: nothing past its limit, else what better prices leave
abbrev pub brings : (side limit size price : ℕ) → Day → ℕ
brings side limit size p d =
    cond (no_worse side p limit)
    (size - (standing_better side customer p d + standing_better side maker p d + standing_better side firm p d))
    0

-- the customer part of a Trade at a price
abbrev pub customer_part : (side limit size price : ℕ) → Day → ℕ
customer_part side limit size p d = min (brings side limit size p d) (standing_at customer p d)

-- a price beside the contracts there
pub record Part : Type 0 where
  pub price : ℕ
  pub number : ℕ

-- so many prices upward
unfoldable pub upward : (from count : ℕ) → List ℕ
upward p zero = []
upward p (suc k) = p ∷ upward (p + 1) k

-- all prices downward
unfoldable pub downward : (from : ℕ) → List ℕ
downward zero = []
downward (suc p) = suc p ∷ downward p

-- all prices, the best first
abbrev pub best_first : (side : ℕ) → List ℕ
best_first side = cond (side == 1) (downward 999999) (upward 1 999999)

-- the parts at some prices, without zeros
abbrev pub parts_at : (part : ℕ → ℕ) → List ℕ → List Part
parts_at part [] = []
parts_at part (p ∷ ps) =
    let rest : List Part = parts_at part ps in cond (part p == 0) rest (record { price = p; number = part p } ∷ rest)

-- the customer parts of a Trade, the best price first
abbrev pub customer_parts : (side limit size : ℕ) → Day → List Part
customer_parts side limit size d = parts_at (λ p. customer_part side limit size p d) (best_first side)

-- ---- the customer view ----

-- what a day shows of its customers: a customer call, or the customer parts of one Trade
pub data Sight : Type 0 where
  customer_call : Call → Sight
  trade_parts : List Part → Sight

-- a Trade without a customer part is left out
abbrev pub with_parts : Row Sight → List Part → Row Sight
with_parts v [] = v
with_parts v (x ∷ xs) = v ▸ trade_parts (x ∷ xs)

-- the customer view of a day: customer calls, carried out or not, and the customer parts of carried-out Trades
abbrev pub customer_view : (side : ℕ) → Day → Row Sight
customer_view side ∅ = ∅
customer_view side (d ▸ event (enter class number price size) e) =
    cond (class == customer) (customer_view side d ▸ customer_call (enter class number price size)) (customer_view side d)
customer_view side (d ▸ event (reduce class number reduction) e) =
    cond (class == customer) (customer_view side d ▸ customer_call (reduce class number reduction)) (customer_view side d)
customer_view side (d ▸ event (withdraw class number) e) =
    cond (class == customer) (customer_view side d ▸ customer_call (withdraw class number)) (customer_view side d)
customer_view side (d ▸ event (quote party price size) e) = customer_view side d
customer_view side (d ▸ event (trade limit size directed given) (answered a)) =
    with_parts (customer_view side d) (customer_parts side limit size d)
customer_view side (d ▸ event (trade limit size directed given) (refused number)) = customer_view side d
customer_view side (d ▸ event (tally class) e) = customer_view side d

-- ---- the customer record ----

-- an entry of the customer record: a customer call with its answer or refusal, or a Trade's customer block
pub data Entry : Type 0 where
  call_noted : Call → Ending ℕ → Entry
  block_noted : (block : List ℕ) → Entry

-- a block without fills is left out
abbrev pub with_block : Row Entry → (block : List ℕ) → Row Entry
with_block r b = cond (count_in b == 0) r (r ▸ block_noted b)

-- the customer record of a day
abbrev pub customer_record : Day → Row Entry
customer_record ∅ = ∅
customer_record (d ▸ event (enter class number price size) e) =
    cond (class == customer) (customer_record d ▸ call_noted (enter class number price size) e) (customer_record d)
customer_record (d ▸ event (reduce class number reduction) e) =
    cond (class == customer) (customer_record d ▸ call_noted (reduce class number reduction) e) (customer_record d)
customer_record (d ▸ event (withdraw class number) e) =
    cond (class == customer) (customer_record d ▸ call_noted (withdraw class number) e) (customer_record d)
customer_record (d ▸ event (quote party price size) e) = customer_record d
customer_record (d ▸ event (trade limit size directed given) (answered a)) = with_block (customer_record d) a.blocks.customers
customer_record (d ▸ event (trade limit size directed given) (refused number)) = customer_record d
customer_record (d ▸ event (tally class) e) = customer_record d
