-- A stretch: the records at one price, which stand together where a table is best first.
use Rattle.std.specs.Prelude.{ℕ, cond, List, [], ◌∷◌, map, drop, ◌==◌}
use Rattle.blocks.specs.declared.Fill.{Fill}
use Rattle.kept.specs.Standing.{Interest}
use Rattle.model.specs.Fills.{given_to}

-- the first records of a table that are at a price
abbrev pub front : (price : ℕ) → List Interest → List Interest
front p [] = []
front p (r ∷ rs) = cond (p == r.price) (r ∷ front p rs) []

-- the stretch at a price that begins at a place
abbrev pub here : {X : Type 0} → (shown : X → Interest) → (from price : ℕ) → List X → List Interest
here shown from p xs = front p (map shown (drop from xs))

-- each record lowered by its share
abbrev pub lowered_each : {X : Type 0} → (lower : X → ℕ → X) → List X → (shares : List ℕ) → List X
lowered_each lower [] ns = []
lowered_each lower (x ∷ xs) [] = x ∷ xs
lowered_each lower (x ∷ xs) (n ∷ ns) = lower x n ∷ lowered_each lower xs ns

-- each record lowered by what some fills give its holder
abbrev pub lower_all : {X : Type 0} → (shown : X → Interest) → (lower : X → ℕ → X) → List Fill → List X → List X
lower_all shown lower fs = map (λ x. lower x (given_to (shown x).holder fs))
