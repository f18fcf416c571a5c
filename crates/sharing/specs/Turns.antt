-- The turn after a sharing is a turn again, so that the next draw rule can be named.
use Rattle.std.specs.Prelude.{◌≡◌, ℕ, ◌+◌, Bool, true, false, cond, ◌||◌, List, [], ◌∷◌, length, take, nat_le, nat_lt, refl}
use Rattle.terms.specs.Numbers.{sum, place}
use Rattle.sharing.specs.Draw.{behind, turn_after, draw_next, left_over, by_turn, open_holders}
use Rattle.sharing.specs.Making.{turns_at}
use Rattle.sharing.specs.Rule.{Inputs}

-- a place that is tested, and else the first, is a turn
tested_turn : (roster : List ℕ) (p : ℕ) (test : Bool) → nat_lt p (length roster) ≡ test → turns_at (cond test p 0) roster ≡ true
tested_turn roster p true e = rw e
tested_turn roster p false e = first_turn (nat_lt 0 (length roster))
  where
    first_turn : (b : Bool) → (b || true) ≡ true
    first_turn true = refl
    first_turn false = refl

either_turn : (roster : List ℕ) (test : Bool) (m n : ℕ) → turns_at m roster ≡ true → turns_at n roster ≡ true → turns_at (cond test m n) roster ≡ true
either_turn roster true m n e f = e
either_turn roster false m n e f = f

pub received_turn : (roster : List ℕ) (turn : ℕ) (receivers : List ℕ) → turns_at turn roster ≡ true → turns_at (turn_after roster turn receivers) roster ≡ true
received_turn roster turn [] e = e
received_turn roster turn (h ∷ hs) e =
    received_turn roster (behind roster h) hs (tested_turn roster (place roster h + 1) (nat_lt (place roster h + 1) (length roster)) refl)

pub next_turn : (roster : List ℕ) (specialist turn : ℕ) (i : Inputs) → turns_at turn roster ≡ true → turns_at (draw_next roster specialist turn i) roster ≡ true
next_turn roster specialist turn i e =
    either_turn roster (nat_le (sum i.sizes) i.number) turn _ e
    (received_turn roster turn (take (left_over specialist i) (by_turn roster turn (open_holders specialist i))) e)
