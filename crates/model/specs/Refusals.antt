-- When a call is turned away, and by which number.
use Rattle.std.specs.Prelude.{ℕ, zero, suc, Bool, cond, not, ◌&&◌, ◌||◌, List, [], ◌∷◌, length, ◌==◌, nat_le, nat_lt}
use Rattle.terms.specs.Numbers.{listed, within}
use Rattle.model.specs.Tables.{Tables, has, left_to}
use Rattle.model.specs.Words.{customer, firm, of, Call, enter, reduce, withdraw, quote, trade, tally, Ending, answered, refused}

infix 80 ◌if◌
-- a refusal's number and when it applies
pub data Check : Type 0 where
  ◌if◌ : ℕ → Bool → Check

-- the first refusal that applies, 0 if none does
abbrev pub first : List Check → ℕ
first [] = 0
first ((number if applies) ∷ checks) = cond applies number (first checks)

-- how a call ends: with the answer, or turned away where there is a refusal
abbrev pub ending : {A : Type 0} → (refusal : ℕ) → A → Ending A
ending zero a = answered a
ending (suc r) a = refused (suc r)

-- the first where there is no refusal, the second where there is one
abbrev pub unless_refused : {A : Type 0} → (refusal : ℕ) → A → A → A
unless_refused zero changed same = changed
unless_refused (suc r) changed same = same

-- a class whose orders are entered: customers or firms
abbrev pub orders : (class : ℕ) → Bool
orders class = class == customer || class == firm

-- the refusal of a call, 0 where it is carried out: 7 for the class, 8 for an order's number, 9 for a price or a limit, 10 for a size,
-- 11 for an order that stands already, 12 for a full table, 13 for an order that does not stand, 14 for a reduction by more than is left,
-- 15 for a party that is not on the roster, 16 for the length of a block
abbrev pub refusal : (roster : List ℕ) → Tables → Call → ℕ
refusal roster ts (enter class number price size) =
    first (7 if not (orders class) ∷ 8 if not (within 999999 number) ∷ 9 if not (within 999999 price)
    ∷ 10 if not (within 99999 size) ∷ 11 if has number (of class ts) ∷ 12 if nat_le 64 (length (of class ts)) ∷ [])
refusal roster ts (reduce class number reduction) =
    first (7 if not (orders class) ∷ 8 if not (within 999999 number) ∷ 10 if not (within 99999 reduction)
    ∷ 13 if not (has number (of class ts)) ∷ 14 if nat_lt (left_to number (of class ts)) reduction ∷ [])
refusal roster ts (withdraw class number) =
    first (7 if not (orders class) ∷ 8 if not (within 999999 number) ∷ 13 if not (has number (of class ts)) ∷ [])
refusal roster ts (quote party price size) =
    first (15 if not (listed party roster) ∷ 10 if nat_lt 99999 size
    ∷ 9 if (not (size == 0) && not (within 999999 price)) ∷ [])
refusal roster ts (trade limit size directed given) =
    first (9 if not (within 999999 limit) ∷ 10 if not (within 999999 size)
    ∷ 15 if not (directed == 0 || listed directed roster)
    ∷ 16 if not (length given.customers == 130 && (length given.makers == 34 && length given.firms == 130)) ∷ [])
refusal roster ts (tally class) = first (7 if not (within 3 class) ∷ [])
