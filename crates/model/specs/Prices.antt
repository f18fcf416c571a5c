-- The ladder of prices at which anything stands: each price once, the best first.
use Rattle.std.specs.Prelude.{ℕ, cond, List, [], ◌∷◌, ◌++◌, ◌==◌}
use Rattle.kept.specs.Ranked.{better}
use Rattle.kept.specs.Standing.{Interest}
use Rattle.model.specs.Tables.{Tables}

-- a price put into a ladder in its place, unless it is there
abbrev pub rung : (side price : ℕ) → List ℕ → List ℕ
rung side p [] = p ∷ []
rung side p (q ∷ qs) = cond (p == q) (q ∷ qs) (cond (better side p q) (p ∷ q ∷ qs) (q ∷ rung side p qs))

-- the ladder of some records
abbrev pub ladder : (side : ℕ) → List Interest → List ℕ
ladder side [] = []
ladder side (r ∷ rs) = rung side r.price (ladder side rs)

-- the ladder of all three tables
abbrev pub prices : (side : ℕ) → Tables → List ℕ
prices side t = ladder side (t.customers ++ (t.makers ++ t.firms))
