-- Ten shares worked by hand, and what the rules give.
use Rattle.std.specs.Prelude.{◌≡◌, ℕ, List, [], ◌∷◌, map}
use Rattle.sharing.specs.Draw.{draw_shares, draw_next}
use Rattle.sharing.specs.ProRata.{pro_rata}
use Rattle.sharing.specs.Rule.{Inputs, inputs}

-- an order to share: among makers, by a roster, a specialist (0 for none) and a turn, or among firms
pub data Case : Type 0 where
  makers : (roster : List ℕ) (specialist turn : ℕ) (asked : Inputs) → Case
  firms : (number : ℕ) (sizes : List ℕ) → Case

-- the shares, and with makers the turn afterwards
pub data Outcome : Type 0 where
  turn_at : (turn : ℕ) (shares : List ℕ) → Outcome
  no_turn : (shares : List ℕ) → Outcome

-- what the rules give
abbrev pub outcome : Case → Outcome
outcome (makers roster specialist turn asked) = turn_at (draw_next roster specialist turn asked) (draw_shares roster specialist turn asked)
outcome (firms number sizes) = no_turn (pro_rata number sizes)

-- two makers with 10 contracts each, the second the specialist, and all that arrives for them
abbrev two_makers : (number : ℕ) → Case
two_makers n = makers (1 ∷ 2 ∷ []) 2 0 (inputs (1 ∷ 2 ∷ []) (10 ∷ 10 ∷ []) n n 0)

-- the ten orders. Parties are numbered in the order of the draw, and places from 0. In turn: nobody entitled; directed to the second
-- beside the specialist; directed to the first, without a specialist; directed to the specialist; the specialist cut to its size;
-- five, six and seven contracts; the turn at a maker who is not there; three firms
abbrev pub cases : List Case
cases =
    makers (1 ∷ 2 ∷ 3 ∷ 4 ∷ 5 ∷ []) 0 0 (inputs (1 ∷ 2 ∷ 3 ∷ 4 ∷ 5 ∷ []) (30 ∷ 15 ∷ 10 ∷ 10 ∷ 10 ∷ []) 200 63 0)
    ∷ makers (1 ∷ 2 ∷ 3 ∷ []) 1 0 (inputs (1 ∷ 2 ∷ 3 ∷ []) (15 ∷ 20 ∷ 10 ∷ []) 40 33 2)
    ∷ makers (1 ∷ 2 ∷ 3 ∷ []) 0 0 (inputs (1 ∷ 2 ∷ 3 ∷ []) (15 ∷ 20 ∷ 10 ∷ []) 40 33 1)
    ∷ makers (1 ∷ 2 ∷ []) 1 0 (inputs (1 ∷ 2 ∷ []) (15 ∷ 30 ∷ []) 40 33 1)
    ∷ makers (1 ∷ 2 ∷ 3 ∷ 4 ∷ []) 2 0 (inputs (1 ∷ 2 ∷ 3 ∷ 4 ∷ []) (10 ∷ 12 ∷ 10 ∷ 20 ∷ []) 40 38 0)
    ∷ two_makers 5 ∷ two_makers 6 ∷ two_makers 7
    ∷ makers (1 ∷ 2 ∷ 3 ∷ []) 0 1 (inputs (1 ∷ 3 ∷ []) (2 ∷ 2 ∷ []) 3 3 0)
    ∷ firms 9 (5 ∷ 3 ∷ 3 ∷ []) ∷ []

-- the shares and turns as worked by hand
abbrev pub by_hand : List Outcome
by_hand =
    turn_at 2 (26 ∷ 13 ∷ 8 ∷ 8 ∷ 8 ∷ [])
    ∷ turn_at 1 (12 ∷ 14 ∷ 7 ∷ [])
    ∷ turn_at 1 (14 ∷ 13 ∷ 6 ∷ [])
    ∷ turn_at 0 (15 ∷ 18 ∷ [])
    ∷ turn_at 2 (7 ∷ 12 ∷ 6 ∷ 13 ∷ [])
    ∷ turn_at 1 (3 ∷ 2 ∷ []) ∷ turn_at 0 (3 ∷ 3 ∷ []) ∷ turn_at 0 (3 ∷ 4 ∷ [])
    ∷ turn_at 0 (1 ∷ 2 ∷ [])
    ∷ no_turn (5 ∷ 2 ∷ 2 ∷ []) ∷ []

-- the two agree
abbrev pub WorkedShares : Type 0
WorkedShares = map outcome cases ≡ by_hand
