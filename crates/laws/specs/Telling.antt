-- What possible days and customer parts come to on small days: that they tell right from wrong.
use Rattle.std.specs.Prelude.{◌≡◌, ℕ, List, [], ◌∷◌}
use Rattle.model.specs.Customers.{customer_part}
use Rattle.model.specs.Sample.{sample_day, before_trade}
use Rattle.model.specs.Words.{customer, enter, quote, answered, event, ∅, ◌▸◌, Day}
use Rattle.laws.specs.Possible.{PossibleDay}

-- a customer offers 5 contracts at 110, and a maker so many at a price
abbrev pub offered : (price size : ℕ) → Day
offered p n = ∅ ▸ event (enter customer 1 110 5) (answered 5) ▸ event (quote 10 p n) (answered 0)

-- the customer part at 110 of a Trade of 18
abbrev pub part_of_18 : Day → ℕ
part_of_18 = customer_part 2 110 18 110

-- what is told, given a wrong answer to the sample day's Tally
pub record Telling (wrong : ℕ) : Type 0 where
  -- the sample day is possible; with its last answer altered it is not, under any rules
  pub possible : PossibleDay 2 (sample_day 12)
  pub impossible : PossibleDay 2 (sample_day wrong) → ⊥
  -- the sample day's Trade has a customer part of 5 at 110, and none at 109
  pub parts : ◌≡◌ {A = List ℕ} (customer_part 2 110 38 110 before_trade ∷ customer_part 2 110 38 109 before_trade ∷ []) (5 ∷ 0 ∷ [])
  -- a maker's size changes no part behind the customers at their price, and may change one from a better price
  pub behind : ◌≡◌ {A = List ℕ} (part_of_18 (offered 110 15) ∷ part_of_18 (offered 110 16) ∷ []) (5 ∷ 5 ∷ [])
  pub ahead : ◌≡◌ {A = List ℕ} (part_of_18 (offered 109 15) ∷ part_of_18 (offered 109 16) ∷ []) (3 ∷ 2 ∷ [])
