-- What stands after a day, and at which price, told from its events alone.
use Rattle.std.specs.Prelude.{ℕ, zero, suc, ◌+◌, ◌-◌, cond, ◌&&◌, ◌==◌}
use Rattle.blocks.specs.Reading.{fills_in}
use Rattle.kept.specs.Ranked.{better}
use Rattle.model.specs.Fills.{given_to}
use Rattle.model.specs.Words.{maker, of, places, enter, reduce, withdraw, quote, trade, tally, Traded, answered, refused, event, ∅, ◌▸◌, Day}

-- the contracts that a carried-out Trade's block of a class gives a holder
abbrev pub fill_of : (class holder : ℕ) → Traded → ℕ
fill_of class h a = given_to h (fills_in (places class) (of class a.blocks))

-- a holder's contracts standing: the size in its last accepted Enter or Quote, less its accepted reductions and its fills since; 0 after a
-- later accepted Withdraw
abbrev pub stands : (class holder : ℕ) → Day → ℕ
stands class h ∅ = 0
stands class h (d ▸ event (enter k n price size) (answered a)) = cond (class == k && h == n) size (stands class h d)
stands class h (d ▸ event (reduce k n reduction) (answered a)) =
    stands class h d - cond (class == k && h == n) reduction 0
stands class h (d ▸ event (withdraw k n) (answered a)) = cond (class == k && h == n) 0 (stands class h d)
stands class h (d ▸ event (quote party price size) (answered a)) =
    cond (class == maker && h == party) size (stands class h d)
stands class h (d ▸ event (trade limit size directed given) (answered a)) = stands class h d - fill_of class h a
stands class h (d ▸ event (tally k) (answered a)) = stands class h d
stands class h (d ▸ event call (refused number)) = stands class h d

-- the price in a holder's last accepted Enter or Quote
abbrev pub stood_at : (class holder : ℕ) → Day → ℕ
stood_at class h ∅ = 0
stood_at class h (d ▸ event (enter k n price size) (answered a)) = cond (class == k && h == n) price (stood_at class h d)
stood_at class h (d ▸ event (reduce k n reduction) (answered a)) = stood_at class h d
stood_at class h (d ▸ event (withdraw k n) (answered a)) = stood_at class h d
stood_at class h (d ▸ event (quote party price size) (answered a)) =
    cond (class == maker && h == party) price (stood_at class h d)
stood_at class h (d ▸ event (trade limit size directed given) (answered a)) = stood_at class h d
stood_at class h (d ▸ event (tally k) (answered a)) = stood_at class h d
stood_at class h (d ▸ event call (refused number)) = stood_at class h d

-- how many events a day has
abbrev pub events : Day → ℕ
events ∅ = 0
events (d ▸ e) = events d + 1

-- when a holder's last accepted Enter or Quote came, as its place in the day from 1; 0 if there is none
abbrev pub arrived : (class holder : ℕ) → Day → ℕ
arrived class h ∅ = 0
arrived class h (d ▸ event (enter k n price size) (answered a)) = cond (class == k && h == n) (events d + 1) (arrived class h d)
arrived class h (d ▸ event (reduce k n reduction) (answered a)) = arrived class h d
arrived class h (d ▸ event (withdraw k n) (answered a)) = arrived class h d
arrived class h (d ▸ event (quote party price size) (answered a)) = cond (class == maker && h == party) (events d + 1) (arrived class h d)
arrived class h (d ▸ event (trade limit size directed given) (answered a)) = arrived class h d
arrived class h (d ▸ event (tally k) (answered a)) = arrived class h d
arrived class h (d ▸ event call (refused number)) = arrived class h d

-- a sum over the numbers 1 to n; it stays shut, since n is large
unfoldable pub sum_to : (n : ℕ) → (ℕ → ℕ) → ℕ
sum_to zero f = 0
sum_to (suc n) f = sum_to n f + f (suc n)

-- contracts of a class standing at a price, over every number that a holder may have
abbrev pub standing_at : (class price : ℕ) → Day → ℕ
standing_at class p d = sum_to 999999 (λ h. cond (p == stood_at class h d) (stands class h d) 0)

-- contracts of a class standing at better prices
abbrev pub standing_better : (side class price : ℕ) → Day → ℕ
standing_better side class p d = sum_to 999999 (λ h. cond (better side (stood_at class h d) p) (stands class h d) 0)
