-- Pro rata by arrival: shares by size, rounded down, and the leftovers one each in list order.
use Rattle.std.specs.Prelude.{ℕ, ◌+◌, ◌-◌, ◌*◌, ◌/◌, min, cond, List, [], ◌∷◌, map, nat_le, nat_lt}
use Rattle.terms.specs.Numbers.{sum}

-- plain shares: size × number / total, rounded down
abbrev pub plain : (number total : ℕ) → (sizes : List ℕ) → List ℕ
plain n total = map (λ size. size * n / total)

-- one more in list order to each entry with size unspent, while leftovers last
abbrev pub one_each : (left : ℕ) → (sizes shares : List ℕ) → List ℕ
one_each left [] shares = []
one_each left (size ∷ sizes) [] = []
one_each left (size ∷ sizes) (share ∷ shares) =
    let more : ℕ = cond (nat_lt share size) (min left 1) 0 in
    (share + more) ∷ one_each (left - more) sizes shares

-- all sizes where the number covers them; else plain shares, and then the leftovers
abbrev pub pro_rata : (number : ℕ) → (sizes : List ℕ) → List ℕ
pro_rata n sizes =
    let base : List ℕ = plain n (sum sizes) sizes in
    cond (nat_le (sum sizes) n) sizes (one_each (n - sum base) sizes base)
