-- Numbers in a line: 1 to 9 digits and no leading zero; 0 alone is a number.
use Rattle.std.specs.Prelude.{ℕ, ◌+◌, ◌-◌, ◌*◌, Bool, true, cond, not, ◌&&◌, ◌||◌, List, [], ◌∷◌, length, Some, None, Option, ◌==◌, nat_le, slice_index}

-- digits alone
abbrev pub digits : List ℕ → Bool
digits [] = true
digits (b ∷ bs) = (nat_le 48 b && nat_le b 57) && digits bs

-- the number that digits spell behind others
abbrev pub value : (front : ℕ) → List ℕ → ℕ
value front [] = front
value front (b ∷ bs) = value (front * 10 + (b - 48)) bs

-- how a number is written
abbrev pub numeral : List ℕ → Bool
numeral text =
    (nat_le 1 (length text) && nat_le (length text) 9) && (digits text && (not (slice_index text 0 == 48) || length text == 1))

-- the number that a text is
abbrev pub number_of : List ℕ → Option ℕ
number_of text = cond (numeral text) (Some (value 0 text)) None
