-- Time order: the first entry is served first.
use Rattle.std.specs.Prelude.{ℕ, ◌-◌, min, List, [], ◌∷◌}

-- each in list order takes the lesser of its size and what remains
abbrev pub in_time : (number : ℕ) → (sizes : List ℕ) → List ℕ
in_time n [] = []
in_time n (size ∷ sizes) = min size n ∷ in_time (n - min size n) sizes
