-- Tables of standing records: how they are ranked, looked up and changed.
use Rattle.std.specs.Prelude.{ℕ, ◌+◌, Bool, cond, ◌&&◌, ◌||◌, List, [], ◌∷◌, map, ◌==◌, nat_eq, nat_le}
use Rattle.terms.specs.Numbers.{sum, listed, place}
use Rattle.kept.specs.Inserting.{entered}
use Rattle.kept.specs.Ranked.{better, no_worse}
use Rattle.kept.specs.Standing.{Interest}
use Rattle.model.specs.Words.{customer, maker, firm, Three}

-- the table of each class: the interest of its standing records, the best first
abbrev pub Tables : Type 0
Tables = Three (List Interest)

-- ---- rank ----

-- x is no worse than y: an order by its price, a quote by its price and then by its maker's place in the draw
abbrev pub ranks : (side class : ℕ) → (roster : List ℕ) → (x y : Interest) → Bool
ranks side class roster x y =
    cond (class == maker)
    (better side x.price y.price || (x.price == y.price && nat_le (place roster x.holder) (place roster y.holder)))
    (no_worse side x.price y.price)

-- ---- looking up ----

-- the holders of a table, in its order
abbrev pub holders_of : List Interest → List ℕ
holders_of = map (λ r. r.holder)

-- the prices of a table's records, in its order
abbrev pub prices_of : List Interest → List ℕ
prices_of = map (λ r. r.price)

-- the contracts of a table's records, in its order
abbrev pub sizes_of : List Interest → List ℕ
sizes_of = map (λ r. r.left)

-- the holder has a record in the table
abbrev pub has : (holder : ℕ) → List Interest → Bool
has h t = listed h (holders_of t)

-- the contracts that a holder has in the table, 0 if it has no record
abbrev pub left_to : (holder : ℕ) → List Interest → ℕ
left_to h [] = 0
left_to h (r ∷ rs) = cond (h == r.holder) r.left (left_to h rs)

-- the price of a holder's record in the table, 0 if it has none
abbrev pub price_of : (holder : ℕ) → List Interest → ℕ
price_of h [] = 0
price_of h (r ∷ rs) = cond (h == r.holder) r.price (price_of h rs)

-- the contracts of a table
abbrev pub total : List Interest → ℕ
total t = sum (sizes_of t)

-- the contracts at the prices that pass a test
abbrev pub total_where : (test : ℕ → Bool) → List Interest → ℕ
total_where test [] = 0
total_where test (r ∷ rs) = cond (test r.price) r.left 0 + total_where test rs

-- the contracts at a price
abbrev pub total_at : (price : ℕ) → List Interest → ℕ
total_at p = total_where (λ q. nat_eq p q)

-- the records at a price, in table order
abbrev pub at_price : (price : ℕ) → List Interest → List Interest
at_price p [] = []
at_price p (r ∷ rs) = let rest : List Interest = at_price p rs in cond (p == r.price) (r ∷ rest) rest

-- ---- changes ----

-- a class's table with a new record in its place: behind all that are no worse
abbrev pub with_record : (side class : ℕ) → (roster : List ℕ) → (holder price size : ℕ) → List Interest → List Interest
with_record side class roster h p n = entered (ranks side class roster) (record { holder = h; price = p; left = n })

-- the table without a holder's record
abbrev pub without : (holder : ℕ) → List Interest → List Interest
without h [] = []
without h (r ∷ rs) = cond (h == r.holder) rs (r ∷ without h rs)

-- the makers' table with a party's new quote in place of its old one; size 0 only takes the old one off
abbrev pub quoted : (side : ℕ) → (roster : List ℕ) → (party price size : ℕ) → List Interest → List Interest
quoted side roster party p n t = cond (n == 0) (without party t) (with_record side maker roster party p n (without party t))

-- the tables with the table of a class put in
abbrev pub with_table : (class : ℕ) → List Interest → Tables → Tables
with_table class t ts =
    record {
      customers = cond (class == customer) t ts.customers;
      makers = cond (class == maker) t ts.makers;
      firms = cond (class == firm) t ts.firms;
    }
