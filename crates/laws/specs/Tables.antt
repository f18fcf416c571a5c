-- A table holds exactly what stands, within its bounds and in rank order.
use Rattle.std.specs.Prelude.{◌≡◌, ℕ, ◌<◌, ◌≤◌, Bool, true, false, not, ◌||◌, List, length, ◌==◌, nat_eq, nat_lt}
use Rattle.terms.specs.Numbers.{distinct, all_within}
use Rattle.kept.specs.Inserting.{in_rank}
use Rattle.kept.specs.Standing.{Interest}
use Rattle.model.specs.Standing.{arrived, stands, stood_at}
use Rattle.model.specs.Tables.{ranks, holders_of, prices_of, sizes_of, left_to, price_of}
use Rattle.model.specs.Words.{maker, places, highest, Day}

-- if two records stand at one price, x arrived before y
abbrev pub arrived_first : (class : ℕ) → Day → (x y : Interest) → Bool
arrived_first class d x y = not (x.price == y.price) || nat_lt (arrived class x.holder d) (arrived class y.holder d)

-- the standing records of a class are those with contracts left after the day, and no others
pub record TableHoldsWhatStands (side : ℕ) (roster : List ℕ) (class : ℕ) (table : List Interest) (d : Day) : Type 0 where
  -- no holder twice, and no more records than the class has places
  pub once : distinct (holders_of table) ≡ true
  pub few : length table ≤ places class
  -- holders, prices and contracts are from 1 to their most
  pub holders_in_range : all_within (highest class) (holders_of table) ≡ true
  pub prices_in_range : all_within 999999 (prices_of table) ≡ true
  pub sizes_in_range : all_within 99999 (sizes_of table) ≡ true
  -- the best price first; at equal prices makers by their places in the draw, and orders by arrival
  pub ranked : in_rank (ranks side class roster) table ≡ true
  pub by_arrival : nat_eq class maker ≡ false → in_rank (arrived_first class d) table ≡ true
  -- a holder has what it has standing, and where it stood
  pub contracts : (h : ℕ) → left_to h table ≡ stands class h d
  pub priced : (h : ℕ) → 0 < stands class h d → price_of h table ≡ stood_at class h d
