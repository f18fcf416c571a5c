-- Make: when it is turned away, what it answers, and how calls end before it is accepted.
use Rattle.std.specs.Prelude.{◌≡◌, ℕ, not, ◌||◌, List, [], ◌∷◌, length, ◌==◌, nat_lt}
use Rattle.sharing.specs.Making.{parties, may_specialize}
use Rattle.model.specs.Refusals.{◌if◌, first, ending}
use Rattle.model.specs.Words.{Three, Call, Answer, Ending, refused}

-- the refusal of a Make, 0 where it is accepted; `lengths` are those of the three tables.
-- 2 for the side, 3 for a roster of more than 16, 4 for a party's number or a party twice, 5 for a specialist that is not on the roster,
-- 6 for a table that is too short
abbrev pub make_refusal : (side : ℕ) (roster : List ℕ) (specialist : ℕ) (lengths : Three ℕ) → ℕ
make_refusal side roster specialist lengths =
    first (2 if not (side == 1 || side == 2) ∷ 3 if nat_lt 16 (length roster)
    ∷ 4 if not (parties roster) ∷ 5 if not (may_specialize specialist roster)
    ∷ 6 if (nat_lt lengths.customers 64 || (nat_lt lengths.makers 16 || nat_lt lengths.firms 64)) ∷ [])

-- how a Make ends; it answers the length of the roster
abbrev pub make_ends : (side : ℕ) (roster : List ℕ) (specialist : ℕ) (lengths : Three ℕ) → Ending ℕ
make_ends side roster specialist lengths = ending (make_refusal side roster specialist lengths) (length roster)

-- an accepted Make on a side with a roster
pub record Accepted (side : ℕ) (roster : List ℕ) : Type 0 where
  pub specialist : ℕ
  pub lengths : Three ℕ
  pub no_refusal : make_refusal side roster specialist lengths ≡ 0

-- until a Make is accepted the book is shut: it turns every other call away, whatever its numbers
abbrev pub shut_ends : (call : Call) → Ending (Answer call)
shut_ends call = refused 1
