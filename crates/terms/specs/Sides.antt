-- The number of each side.
use Rattle.std.specs.Prelude.{ℕ, cond, ◌==◌}
use Rattle.terms.specs.declared.side.Side.{Side}
use Rattle.terms.specs.declared.side.Side.TheVariants.{Bids, Offers}

abbrev pub side_number : Side → ℕ
side_number Bids = 1
side_number Offers = 2

-- the side that a number stands for: 1 for bids, any other for offers
abbrev pub side_of : ℕ → Side
side_of n = cond (n == 1) Bids Offers
