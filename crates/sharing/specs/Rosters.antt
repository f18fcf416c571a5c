-- Rosters: the parties that are drawn stand in the first places.
use Rattle.std.specs.Prelude.{◌≡◌, ℕ, ◌-◌, ◌<◌, ◌≤◌, true, false, List, ◌++◌, length, take, nat_le, slice_index, refl}
use Rattle.std.proofs.Common.{arith, sym, ap, ◌∙◌}
use Rattle.std.proofs.Math.Bool.{Bool-set}
use mathlib.Core.HLevel.{is_prop→PathP}
use Rattle.std.proofs.lemmas.List.{take_at, get_or-take, length-take}
use Rattle.std.proofs.lemmas.Bool.{le-leb, and_parts}
use Rattle.std.proofs.lemmas.Bool.Decides.{nat_tests}
use Rattle.terms.specs.Numbers.{sum, distinct, all_within}
use Rattle.sharing.specs.Draw.{base_shares, takers, turn_after, draw_next}
use Rattle.sharing.specs.Made.{drawn, next_of}
use Rattle.sharing.specs.Making.{parties, drawable, turns_at}
use Rattle.sharing.specs.Rule.{Inputs}
use Rattle.sharing.specs.Turns.{received_turn}
use Rattle.sharing.specs.declared.roster.Roster.{Roster}
use Rattle.sharing.specs.declared.draw_rule.DrawRule.{DrawRule, sound-type}
use Rattle.sharing.specs.declared.draw_rule.DrawState.{DrawState}

-- numbers copied to the front read back
pub copied : (xs ys rest : List ℕ) → ys ≡ xs → take (length xs) (ys ++ rest) ≡ xs
copied xs ys rest e = ap (λ zs. take (length xs) (zs ++ rest)) e ∙ take_at xs rest (length xs) refl

-- three tests passed
pub passed : (xs : List ℕ) → length xs ≤ 16 → all_within 65535 xs ≡ true → distinct xs ≡ true → drawable xs ≡ true
passed xs l a d = rw (le-leb (length xs) 16 l, a, d)

-- a party's place in the roster is its place among the stored numbers
pub party_at : (n : ℕ) (xs : List ℕ) (i : ℕ) → i < length (take n xs) → slice_index xs i ≡ slice_index (take n xs) i
party_at n xs i l = sym (get_or-take n xs i 0 (omega (arith, length-take n xs)))

-- nobody is drawn twice
pub roster_once : (r : Roster) → distinct (drawn r) ≡ true
roster_once r =
    let w = and_parts (nat_le (length (drawn r)) 16) (parties (drawn r)) r.sound.1 in
    (and_parts (all_within 65535 (drawn r)) (distinct (drawn r)) w.1).1

-- rules with the same roster, specialist and turn are the same: their invariants are facts of one proof
pub same_rule : (r : Roster) (specialist : ℕ) (s t : DrawState) (p : sound-type r specialist s) (q : sound-type r specialist t) → s.turn ≡ t.turn →
    ◌≡◌ {A = DrawRule} (record { roster = r; specialist = specialist; state = s; sound = p }) (record { roster = r; specialist = specialist; state = t; sound = q })
same_rule r specialist s t p q e =
    λ i. record {
      roster = r;
      specialist = specialist;
      state = record { turn = e i };
      sound = is_prop→PathP (λ j. sound-type r specialist (record { turn = e j })) (λ j x y k. (Bool-set _ _ x.0 y.0 k, Bool-set _ _ x.1 y.1 k)) p q i;
    }

-- a rule whose turn stays stays
pub still_rule : (s : DrawRule) (i : Inputs) → draw_next (drawn s.roster) s.specialist s.state.turn i ≡ s.state.turn → next_of s i ≡ s
still_rule s i e = same_rule s.roster s.specialist _ s.state _ s.sound e

-- a turn is a place where the roster has one
pub turn_before : (turn : ℕ) (roster : List ℕ) → turns_at turn roster ≡ true → 0 < length roster → turn < length roster
turn_before turn roster e p = grind (arith, nat_tests)

-- the turn after leftovers is a turn
pub turned_turn : (roster : List ℕ) (turn after : ℕ) (receivers : List ℕ) → after ≡ turn_after roster turn receivers → turns_at turn roster ≡ true → turns_at after roster ≡ true
turned_turn roster turn after receivers e t = rw e (received_turn roster turn receivers t)

-- and it is the next one by the rule's definition
pub drawn_turn : (s : DrawRule) (i : Inputs) (base : List ℕ) (number after : ℕ) → nat_le (sum i.sizes) i.number ≡ false → base ≡ base_shares s.specialist i →
    number ≡ i.number - sum base →
    after ≡ turn_after (drawn s.roster) s.state.turn (take number (takers (drawn s.roster) s.state.turn i.holders i.sizes base)) →
    after ≡ draw_next (drawn s.roster) s.specialist s.state.turn i
drawn_turn s i base number after e b n t = rw (e, ← b, ← n) t
