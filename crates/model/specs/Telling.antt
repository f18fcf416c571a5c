-- Days that the definitions must tell apart, and days that they must not.
use Rattle.std.specs.Prelude.{◌≡◌, ℕ, List, [], ◌∷◌, ◌++◌, replicate}
use Rattle.model.specs.Book.{Book, made, after_all, day}
use Rattle.model.specs.Customers.{customer_record}
use Rattle.model.specs.Sample.{makers_drawn, by_draw, by_size, sample_calls, sample_day, day_of, book_after, soiled}
use Rattle.model.specs.Words.{customer, firm, Blocks, Call, enter, quote, trade, answered, event, ∅, ◌▸◌, Day}

-- a customer offers 5 contracts, of which a Trade takes so many
abbrev pub taken : (size : ℕ) → List Call
taken n = enter customer 1 110 5 ∷ trade 110 n 0 soiled ∷ []

-- a customer offers 5 contracts at 110 and a maker so many at a price, and a Trade takes 18 in all
abbrev pub beside_maker : (price size : ℕ) → List Call
beside_maker p n = enter customer 1 110 5 ∷ quote 10 p n ∷ trade 110 18 0 soiled ∷ []

-- six contracts arrive for a customer's 1, the 10 of maker 20, to whom they are directed, and the 30 of maker 10, who quoted last
abbrev pub six_calls : List Call
six_calls = enter customer 1 110 1 ∷ quote 20 110 10 ∷ quote 10 110 30 ∷ trade 110 6 20 soiled ∷ []

-- maker 10 is shown first, by the draw. More than five arrived, so that maker 20 takes 40% of the 5 that the customer leaves
abbrev pub six_blocks : Blocks
six_blocks =
    record {
      customers = (1 ∷ 1 ∷ 1 ∷ replicate 63 0) ++ (1 ∷ replicate 63 0);
      makers = (2 ∷ 5 ∷ 10 ∷ 20 ∷ replicate 14 0) ++ (3 ∷ 2 ∷ replicate 14 0);
      firms = replicate 130 0;
    }

abbrev pub six_day : Day
six_day =
    ∅ ▸ event (enter customer 1 110 1) (answered 1) ▸ event (quote 20 110 10) (answered 0) ▸ event (quote 10 110 30) (answered 0)
    ▸ event (trade 110 6 20 soiled) (answered (record { filled = 6; left = 0; blocks = six_blocks }))

-- two makers quote 10 contracts each, and Trades of 5 take from them; each Trade leaves one contract over
abbrev pub fives : (trades : ℕ) → List Call
fives k = quote 10 110 10 ∷ quote 20 110 10 ∷ replicate k (trade 110 5 0 soiled)

-- a book in which firms share by the draw rule too, after two orders and a Trade
abbrev pub firms_by_draw : Book ℕ ℕ
firms_by_draw =
    after_all by_draw by_draw (made 2 makers_drawn 0 0) (∅ ▸ enter firm 10 110 10 ▸ enter firm 20 110 10 ▸ trade 110 5 0 soiled)

-- on the other side, bids, a Trade of 6 takes 5 from the customer at 110 and then 1 from the one at 109
abbrev pub bids : Day
bids = day by_draw by_size (made 1 makers_drawn 0 tt) (∅ ▸ enter customer 1 109 5 ▸ enter customer 2 110 5 ▸ trade 109 6 0 soiled)

abbrev pub bids_blocks : Blocks
bids_blocks =
    record { customers = (2 ∷ 6 ∷ 2 ∷ 1 ∷ replicate 62 0) ++ (5 ∷ 1 ∷ replicate 62 0); makers = replicate 34 0; firms = replicate 130 0 }

-- what the definitions tell, given a wrong answer to the sample day's Tally
pub record Telling (wrong : ℕ) : Type 0 where
  -- a day whose last answer is altered is not the day of its calls
  pub altered_answer : day_of sample_calls ≡ sample_day wrong → ⊥
  -- one contract fewer for a customer makes another customer record
  pub one_fewer : customer_record (day_of (taken 5)) ≡ customer_record (day_of (taken 4)) → ⊥
  -- behind the customers at their price, a maker's size changes no customer record
  pub size_behind : customer_record (day_of (beside_maker 110 15)) ≡ customer_record (day_of (beside_maker 110 16))
  -- at a better price it leaves the customer another part, 3 or 2, and so another record
  pub size_ahead : customer_record (day_of (beside_maker 109 15)) ≡ customer_record (day_of (beside_maker 109 16)) → ⊥
  -- makers are ranked by the draw, and their rule is told what arrived and to whom it is directed
  pub six_arrive : day_of six_calls ≡ six_day
  -- each rule goes on to its next state: the turn moves on with each contract left over
  pub turns_move : ◌≡◌ {A = List ℕ}
      ((book_after (fives 0)).makers_rule ∷ (book_after (fives 1)).makers_rule ∷ (book_after (fives 2)).makers_rule ∷ firms_by_draw.firms_rule ∷ [])
      (0 ∷ 1 ∷ 2 ∷ 1 ∷ [])
  -- the higher bid is the better one
  pub higher_bids_first : bids ≡ ∅ ▸ event (enter customer 1 109 5) (answered 5) ▸ event (enter customer 2 110 5) (answered 5)
      ▸ event (trade 109 6 0 soiled) (answered (record { filled = 6; left = 0; blocks = bids_blocks }))
