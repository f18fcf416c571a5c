-- The prices of tables that are best first: the best of all stands among the first ones.
use Rattle.std.specs.Prelude.{◌≡◌, ℕ, Bool, true, cond, List, [], ◌∷◌, Option, None, Some}
use Rattle.kept.specs.Inserting.{in_rank}
use Rattle.kept.specs.Ranked.{better, no_worse}
use Rattle.kept.specs.Standing.{Interest}
use Rattle.model.specs.Tables.{Tables}

-- the first record's price is as good as the second's or better
abbrev pub by_price : (side : ℕ) → Interest → Interest → Bool
by_price side x y = no_worse side x.price y.price

-- each table is best price first
pub record BestFirst (side : ℕ) (ts : Tables) : Type 0 where
  pub customers : in_rank (by_price side) ts.customers ≡ true
  pub makers : in_rank (by_price side) ts.makers ≡ true
  pub firms : in_rank (by_price side) ts.firms ≡ true

-- the first price of a table, where it has one
abbrev pub ahead : List Interest → Option ℕ
ahead [] = None
ahead (r ∷ rs) = Some r.price

-- the better of two prices, or the one that there is
abbrev pub best : (side : ℕ) → (price other : Option ℕ) → Option ℕ
best side None q = q
best side (Some p) None = Some p
best side (Some p) (Some q) = Some (cond (better side q p) q p)

-- the best of the first prices
abbrev pub best_ahead : (side : ℕ) → Tables → Option ℕ
best_ahead side ts = best side (best side (ahead ts.customers) (ahead ts.makers)) (ahead ts.firms)
