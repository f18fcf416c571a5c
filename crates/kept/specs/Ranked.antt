-- Rank by price on a side.
use Rattle.std.specs.Prelude.{ℕ, Bool, cond, not, ◌==◌, nat_lt}

-- on side 1, bids, a higher price is better; on side 2, offers, a lower one
abbrev pub better : (side price other : ℕ) → Bool
better side p q = cond (side == 1) (nat_lt q p) (nat_lt p q)

-- the first price is as good or better
abbrev pub no_worse : (side price other : ℕ) → Bool
no_worse side p q = not (better side q p)
