-- A busier day, worked out by the model: two prices, all classes and all calls.
use Rattle.std.specs.Prelude.{◌≡◌, ℕ, List, [], ◌∷◌, ◌++◌, replicate}
use Rattle.model.specs.Accounts.{contracts_entered, contracts_filled, contracts_taken_off}
use Rattle.model.specs.Customers.{customer_record, call_noted, block_noted}
use Rattle.model.specs.Sample.{day_of, book_after, soiled}
use Rattle.model.specs.Standing.{stands, stood_at, arrived}
use Rattle.model.specs.Words.{customer, maker, firm, Blocks, Call, enter, reduce, withdraw, quote, trade, tally, answered, refused, event, ∅, ◌▸◌, Day}

-- maker 10 betters its quote from 111 to 110 before the Trades; the second Trade's limit is better than any price that is left
abbrev pub busy_calls : List Call
busy_calls =
    enter customer 1 110 5 ∷ enter customer 2 109 3 ∷ enter firm 1 110 9 ∷ enter firm 2 109 4 ∷ quote 10 111 7 ∷ quote 10 110 15
    ∷ quote 20 109 30 ∷ enter customer 9 110 6 ∷ trade 110 60 10 soiled ∷ trade 109 5 0 soiled ∷ reduce firm 1 2 ∷ withdraw firm 1
    ∷ withdraw firm 1 ∷ quote 10 1 0 ∷ tally firm ∷ []

-- the first Trade takes all of 109, then both customers at 110, and what remains from maker 10
abbrev pub busy_blocks : Blocks
busy_blocks =
    record {
      customers = (3 ∷ 14 ∷ 2 ∷ 1 ∷ 9 ∷ replicate 61 0) ++ (3 ∷ 5 ∷ 6 ∷ replicate 61 0);
      makers = (2 ∷ 42 ∷ 20 ∷ 10 ∷ replicate 14 0) ++ (30 ∷ 12 ∷ replicate 14 0);
      firms = (1 ∷ 4 ∷ 2 ∷ replicate 63 0) ++ (4 ∷ replicate 63 0);
    }

-- the second Trade comes to no price
abbrev pub empty_blocks : Blocks
empty_blocks = record { customers = replicate 130 0; makers = replicate 34 0; firms = replicate 130 0 }

-- how each call ends; the first Trade fills so many
abbrev pub busy_day : (filled : ℕ) → Day
busy_day filled =
    ∅ ▸ event (enter customer 1 110 5) (answered 5) ▸ event (enter customer 2 109 3) (answered 3) ▸ event (enter firm 1 110 9) (answered 9)
    ▸ event (enter firm 2 109 4) (answered 4) ▸ event (quote 10 111 7) (answered 0) ▸ event (quote 10 110 15) (answered 7)
    ▸ event (quote 20 109 30) (answered 0) ▸ event (enter customer 9 110 6) (answered 11)
    ▸ event (trade 110 60 10 soiled) (answered (record { filled = filled; left = 0; blocks = busy_blocks }))
    ▸ event (trade 109 5 0 soiled) (answered (record { filled = 0; left = 5; blocks = empty_blocks }))
    ▸ event (reduce firm 1 2) (answered 7) ▸ event (withdraw firm 1) (answered 7) ▸ event (withdraw firm 1) (refused 13)
    ▸ event (quote 10 1 0) (answered 3) ▸ event (tally firm) (answered 0)

-- what the model makes of these calls
pub record BusyDay (filled : ℕ) : Type 0 where
  -- how every call ends
  pub events : day_of busy_calls ≡ busy_day filled
  -- nothing is left standing
  pub tables : (book_after busy_calls).tables ≡ record { customers = []; makers = []; firms = [] }
  -- customer 9 stood at 110, arrived with the eighth event, and has nothing standing any more
  pub arrival : ◌≡◌ {A = List ℕ}
      (stood_at customer 9 (busy_day filled) ∷ arrived customer 9 (busy_day filled) ∷ stands customer 9 (busy_day filled) ∷ []) (110 ∷ 8 ∷ 0 ∷ [])
  -- the accounts of makers and firms: entered, filled, taken off
  pub makers_account : ◌≡◌ {A = List ℕ}
      (contracts_entered maker (busy_day filled) ∷ contracts_filled maker (busy_day filled) ∷ contracts_taken_off maker (busy_day filled) ∷ [])
      (52 ∷ 42 ∷ 10 ∷ [])
  pub firms_account : ◌≡◌ {A = List ℕ}
      (contracts_entered firm (busy_day filled) ∷ contracts_filled firm (busy_day filled) ∷ contracts_taken_off firm (busy_day filled) ∷ [])
      (13 ∷ 4 ∷ 9 ∷ [])
  -- the customer record: three orders and one block; the Trade without a customer fill is left out
  pub noted : customer_record (busy_day filled)
      ≡ ∅ ▸ call_noted (enter customer 1 110 5) (answered 5) ▸ call_noted (enter customer 2 109 3) (answered 3)
      ▸ call_noted (enter customer 9 110 6) (answered 11) ▸ block_noted busy_blocks.customers
