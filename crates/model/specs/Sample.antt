-- A sample day, worked out by the model: its calls, and what they must come to.
use Rattle.std.specs.Prelude.{◌≡◌, ℕ, List, [], ◌∷◌, ◌++◌, replicate, Ok, Err}
use Rattle.blocks.specs.Reading.{reads, showing}
use Rattle.sharing.specs.Draw.{draw_shares, draw_next}
use Rattle.sharing.specs.ProRata.{pro_rata}
use Rattle.model.specs.Accounts.{contracts_entered, contracts_filled, contracts_taken_off}
use Rattle.model.specs.Book.{Book, made, after_all, day}
use Rattle.model.specs.Customers.{customer_record, call_noted, block_noted}
use Rattle.model.specs.Make.{make_ends}
use Rattle.model.specs.Standing.{stands, stood_at}
use Rattle.model.specs.Trading.{Rule, rule}
use Rattle.model.specs.Words.{customer, maker, Blocks, Call, enter, quote, trade, tally, answered, refused, event, ∅, ◌▸◌, onto, Day}

-- the makers that were drawn, of whom 10 is the specialist
abbrev pub makers_drawn : List ℕ
makers_drawn = 10 ∷ 20 ∷ 30 ∷ []

-- makers share by the draw rule, whose state is the turn
abbrev pub by_draw : Rule ℕ
by_draw = rule (draw_shares makers_drawn 10) (draw_next makers_drawn 10)

-- firms share by size; this rule has no state
abbrev pub by_size : Rule (Unit {0})
by_size = rule (λ s i. pro_rata i.number i.sizes) (λ s i. s)

-- a book of offers, newly made, with the first maker at the turn
abbrev pub offers : Book ℕ (Unit {0})
offers = made 2 makers_drawn 0 tt

-- the day of some calls
abbrev pub day_of : List Call → Day
day_of calls = day by_draw by_size offers (onto ∅ calls)

-- the book after them
abbrev pub book_after : List Call → Book ℕ (Unit {0})
book_after calls = after_all by_draw by_size offers (onto ∅ calls)

-- blocks as they are given to a Trade, with anything in them
abbrev pub soiled : Blocks
soiled = record { customers = replicate 130 7; makers = replicate 34 7; firms = replicate 130 7 }

-- a customer's order, two quotes at its price, a Trade for more than two of them, an order of no contracts, a Tally of the makers
abbrev pub sample_calls : List Call
sample_calls =
    enter customer 1 110 5 ∷ quote 10 110 15 ∷ quote 20 110 30 ∷ trade 110 38 10 soiled ∷ enter customer 1 110 0 ∷ tally maker ∷ []

-- the blocks of the Trade: 5 to customer 1; 15 to maker 10 and 18 to maker 20; none to firms
abbrev pub sample_blocks : Blocks
sample_blocks =
    record {
      customers = (1 ∷ 5 ∷ 1 ∷ replicate 63 0) ++ (5 ∷ replicate 63 0);
      makers = (2 ∷ 33 ∷ 10 ∷ 20 ∷ replicate 14 0) ++ (15 ∷ 18 ∷ replicate 14 0);
      firms = replicate 130 0;
    }

-- the sample day up to its Trade
abbrev pub before_trade : Day
before_trade =
    ∅ ▸ event (enter customer 1 110 5) (answered 5) ▸ event (quote 10 110 15) (answered 0) ▸ event (quote 20 110 30) (answered 0)

-- the sample day up to its Tally
abbrev pub before_tally : Day
before_tally =
    before_trade ▸ event (trade 110 38 10 soiled) (answered (record { filled = 38; left = 0; blocks = sample_blocks }))
    ▸ event (enter customer 1 110 0) (refused 10)

-- the sample day, with what its Tally answers
abbrev pub sample_day : (tallied : ℕ) → Day
sample_day n = before_tally ▸ event (tally maker) (answered n)

-- what the model makes of the sample calls
pub record SampleDay (tallied : ℕ) : Type 0 where
  -- an accepted Make answers the length of the roster
  pub make : make_ends 2 makers_drawn 10 (record { customers = 64; makers = 16; firms = 64 }) ≡ answered 3
  -- how every call ends
  pub events : day_of sample_calls ≡ sample_day tallied
  -- the tables that they leave, and the turn: it stays, since the makers' entitlement left nothing over
  pub tables : (book_after sample_calls).tables
      ≡ record { customers = []; makers = record { holder = 20; price = 110; left = 12 } ∷ []; firms = [] }
  pub turn : (book_after sample_calls).makers_rule ≡ 0
  -- the makers' block reads as the two fills; the row that was given to the Trade is no block
  pub read : reads sample_blocks.makers ≡ Ok (showing (record { holder = 10; contracts = 15 } ∷ record { holder = 20; contracts = 18 } ∷ []))
  pub unread : reads soiled.makers ≡ Err 17
  -- what stands by the day's own account: maker 20 has 12 at 110, and customer 1 nothing
  pub standing : ◌≡◌ {A = List ℕ}
      (stands maker 20 (sample_day tallied) ∷ stood_at maker 20 (sample_day tallied) ∷ stands customer 1 (sample_day tallied) ∷ [])
      (12 ∷ 110 ∷ 0 ∷ [])
  -- the makers' account by the day's own account: entered, filled, taken off
  pub accounts : ◌≡◌ {A = List ℕ}
      (contracts_entered maker (sample_day tallied) ∷ contracts_filled maker (sample_day tallied) ∷ contracts_taken_off maker (sample_day tallied) ∷ [])
      (45 ∷ 33 ∷ 0 ∷ [])
  -- the customer record: the order, the Trade's customer block, and the order that was refused
  pub noted : customer_record (sample_day tallied)
      ≡ ∅ ▸ call_noted (enter customer 1 110 5) (answered 5) ▸ block_noted sample_blocks.customers ▸ call_noted (enter customer 1 110 0) (refused 10)
