-- An order of a customer or a firm: its rank, its number, its contracts.
use Rattle.std.specs.Prelude.{ℕ, ◌-◌, Bool, ◌&&◌, ◌==◌}
use Rattle.kept.specs.Ranked.{no_worse}
use Rattle.kept.specs.Standing.{Interest}
use Rattle.kept.specs.declared.orders.Order.{Order}

-- an order ranks by price
abbrev pub order_ranks : (side : ℕ) → Order → Order → Bool
order_ranks side x y = no_worse side x.price y.price

-- what a place without an order holds, and the test for it: every number is 0
abbrev pub no_order : Order
no_order = record { number = 0; price = 0; left = 0 }

abbrev pub vacant_order : Order → Bool
vacant_order x = x.number == 0 && x.price == 0 && x.left == 0

-- an order goes by its number
abbrev pub order_answers : Order → ℕ → Bool
order_answers x key = key == x.number

-- the interest that an order shows: its holder is its number
abbrev pub order_shown : Order → Interest
order_shown x = record { holder = x.number; price = x.price; left = x.left }

-- an order with so many contracts fewer
abbrev pub order_lower : Order → ℕ → Order
order_lower x by = record { number = x.number; price = x.price; left = x.left - by }
