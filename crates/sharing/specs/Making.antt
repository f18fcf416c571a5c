-- Making a draw rule: which rosters and specialists are taken.
use Rattle.std.specs.Prelude.{ℕ, Bool, cond, ◌&&◌, ◌||◌, List, length, ◌==◌, nat_le, nat_lt}
use Rattle.terms.specs.Numbers.{listed, distinct, all_within}
use Rattle.terms.specs.declared.Refusal.{Refusal}
use Rattle.terms.specs.declared.Refusal.TheVariants.{TooManyParties, BadParty, SpecialistNotDrawn}

-- parties that can be drawn: each from 1 to 65,535, none twice
abbrev pub parties : List ℕ → Bool
parties roster = all_within 65535 roster && distinct roster

-- a roster: at most 16 such parties
abbrev pub drawable : List ℕ → Bool
drawable roster = nat_le (length roster) 16 && parties roster

-- a specialist: 0 for none, or one of the roster
abbrev pub may_specialize : (specialist : ℕ) → (roster : List ℕ) → Bool
may_specialize specialist roster = specialist == 0 || listed specialist roster

-- a roster and a specialist from which a draw rule is made
abbrev pub draws : (roster : List ℕ) → (specialist : ℕ) → Bool
draws roster specialist = drawable roster && may_specialize specialist roster

-- why others are refused, the first that applies
abbrev pub why_not : (roster : List ℕ) → Refusal
why_not roster = cond (nat_lt 16 (length roster)) TooManyParties (cond (parties roster) SpecialistNotDrawn BadParty)

-- a turn: a place in the roster; 0 where the roster is empty
abbrev pub turns_at : (turn : ℕ) → (roster : List ℕ) → Bool
turns_at turn roster = nat_lt turn (length roster) || turn == 0
