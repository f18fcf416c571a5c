-- Rows of numbers: sums, membership, places, and ranges.
use Rattle.std.specs.Prelude.{ℕ, ◌+◌, Bool, true, false, cond, not, ◌&&◌, ◌||◌, List, [], ◌∷◌, ◌==◌, nat_le}
use Rattle.std.specs.List.{list_all}

-- all numbers added up
abbrev pub sum : List ℕ → ℕ
sum [] = 0
sum (x ∷ xs) = x + sum xs

-- x is one of the row
abbrev pub listed : ℕ → List ℕ → Bool
listed x [] = false
listed x (y ∷ ys) = x == y || listed x ys

-- no number stands twice
abbrev pub distinct : List ℕ → Bool
distinct [] = true
distinct (x ∷ xs) = not (listed x xs) && distinct xs

-- how many stand before x; the length where x is not there
abbrev pub place : List ℕ → ℕ → ℕ
place [] x = 0
place (y ∷ ys) x = cond (x == y) 0 (place ys x + 1)

-- the number is from 1 to the most
abbrev pub within : (most : ℕ) → ℕ → Bool
within most n = nat_le 1 n && nat_le n most

-- each number is from 1 to the most
abbrev pub all_within : (most : ℕ) → List ℕ → Bool
all_within most ns = list_all (within most) ns
