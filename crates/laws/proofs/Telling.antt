-- Small days under time order: they are possible, and their customer parts are what the tables give.
use Rattle.std.proofs.Common.{◌≡◌, ℕ, min, List, refl, arith}
use Rattle.sharing.specs.InTime.{time_fair}
use Rattle.sharing.specs.Rule.{Lawful}
use Rattle.sharing.specs.TimeOrder.{in_time}
use Rattle.model.specs.Book.{Book, made, after_all, day}
use Rattle.model.specs.Customers.{customer_part}
use Rattle.model.specs.Make.{Accepted}
use Rattle.model.specs.Prices.{prices}
use Rattle.model.specs.Sample.{makers_drawn, sample_calls, sample_day, before_tally}
use Rattle.model.specs.Tables.{Tables, total_at}
use Rattle.model.specs.Trading.{Rule, rule}
use Rattle.model.specs.Words.{maker, Call, ∅, onto, Day}
use Rattle.laws.specs.Possible.{PossibleDay}
use Rattle.laws.proofs.Arriving.{arrives}
use Rattle.laws.proofs.Days.{comes, possible_day}
use Rattle.laws.proofs.Holding.{holds, balances}
use Rattle.laws.proofs.Trading.{part_is}

-- time order, without a state
abbrev by_time : Rule (Unit {0})
by_time = rule (λ s i. in_time i.number i.sizes) (λ s i. s)

time_lawful : Lawful by_time.shares by_time.next
time_lawful = record { fair = λ s i v. time_fair i.number i.sizes; still = λ s i v e. refl }

accepted : Accepted 2 makers_drawn
accepted = record { specialist = 10; lengths = record { customers = 64; makers = 16; firms = 64 }; no_refusal = refl }

-- a book of offers under time order, its days and its tables
abbrev offers : Book (Unit {0}) (Unit {0})
offers = made 2 makers_drawn tt tt

abbrev pub timed_day : List Call → Day
timed_day calls = day by_time by_time offers (onto ∅ calls)

abbrev pub timed_tables : List Call → Tables
timed_tables calls = (after_all by_time by_time offers (onto ∅ calls)).tables

-- in the sample day time order gives what the draw rule gives
pub sample_possible : PossibleDay 2 (sample_day 12)
sample_possible = possible_day by_time by_time time_lawful time_lawful 2 makers_drawn accepted tt tt (onto ∅ sample_calls)

-- the makers' account leaves 12 to stand, and no other number
pub only_twelve : (n : ℕ) → PossibleDay 2 (sample_day n) → n ≡ 12
only_twelve n x =
    let y = x.comes in
    let a = y.last.answers in
    let b = balances 2 x.roster x.accepted before_tally y.before y.earlier maker refl in
    omega arith

-- the customer part of a Trade, by the tables before it
pub part_by_tables : (calls : List Call) (limit size p : ℕ) →
    customer_part 2 limit size p (timed_day calls)
    ≡ min (arrives 2 limit (timed_tables calls) (prices 2 (timed_tables calls)) size p) (total_at p (timed_tables calls).customers)
part_by_tables calls limit size p =
    part_is 2 makers_drawn (timed_day calls) (timed_tables calls)
    (λ c w. holds 2 makers_drawn accepted (timed_day calls) (timed_tables calls)
    (comes by_time by_time time_lawful time_lawful 2 makers_drawn accepted tt tt (onto ∅ calls)) c w) limit size p
