-- A quote of a maker: its rank, its party, its contracts.
use Rattle.std.specs.Prelude.{ℕ, ◌-◌, Bool, ◌&&◌, ◌||◌, ◌==◌, nat_le}
use Rattle.kept.specs.Ranked.{better}
use Rattle.kept.specs.Standing.{Interest}
use Rattle.kept.specs.declared.quotes.Quote.{Quote}

-- a quote ranks by price, and at one price by its maker's place in the draw
abbrev pub quote_ranks : (side : ℕ) → Quote → Quote → Bool
quote_ranks side x y = better side x.price y.price || (x.price == y.price && nat_le x.place y.place)

-- what a place without a quote holds, and the test for it: every number is 0
abbrev pub no_quote : Quote
no_quote = record { party = 0; price = 0; left = 0; place = 0 }

abbrev pub vacant_quote : Quote → Bool
vacant_quote x = x.party == 0 && x.price == 0 && x.left == 0 && x.place == 0

-- a quote goes by its party
abbrev pub quote_answers : Quote → ℕ → Bool
quote_answers x key = key == x.party

-- the interest that a quote shows: its holder is its party
abbrev pub quote_shown : Quote → Interest
quote_shown x = record { holder = x.party; price = x.price; left = x.left }

-- a quote with so many contracts fewer
abbrev pub quote_lower : Quote → ℕ → Quote
quote_lower x by = record { party = x.party; price = x.price; left = x.left - by; place = x.place }
