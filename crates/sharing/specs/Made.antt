-- Rosters and draw rules of the code, as the definitions speak of them.
use Rattle.std.specs.Prelude.{◌≡◌, ℕ, List, take}
use Rattle.sharing.specs.Draw.{draw_shares, draw_next}
use Rattle.sharing.specs.Rule.{Inputs}
use Rattle.sharing.specs.Turns.{next_turn}
use Rattle.sharing.specs.declared.roster.Roster.{Roster}
use Rattle.sharing.specs.declared.draw_rule.DrawRule.{DrawRule}

-- the parties of a roster, in drawn order
abbrev pub drawn : Roster → List ℕ
drawn r = take r.count r.parties

-- a draw rule as it is made: with its roster, its specialist, and the first at the turn
abbrev pub begun : (roster : List ℕ) (specialist : ℕ) → DrawRule → Type 0
begun roster specialist s = (drawn s.roster ≡ roster) × (s.specialist ≡ specialist) × (s.state.turn ≡ 0)

-- the shares that a draw rule gives
abbrev pub shares_of : DrawRule → Inputs → List ℕ
shares_of s = draw_shares (drawn s.roster) s.specialist s.state.turn

-- the rule afterwards: only its turn may be another
abbrev pub next_of : DrawRule → Inputs → DrawRule
next_of s i =
    record {
      roster = s.roster;
      specialist = s.specialist;
      state = record { turn = draw_next (drawn s.roster) s.specialist s.state.turn i };
      sound = (s.sound.0, next_turn (drawn s.roster) s.specialist s.state.turn i s.sound.1);
    }
