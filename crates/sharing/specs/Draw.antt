-- The draw rule: plain shares or an entitlement first, and leftovers by turn round the day's draw.
use Rattle.std.specs.Prelude.{ℕ, ◌+◌, ◌-◌, ◌*◌, ◌/◌, min, max, Bool, cond, not, ◌&&◌, ◌||◌, List, [], ◌∷◌, ◌++◌, length, take, drop, ◌==◌, nat_le, nat_lt}
use Rattle.terms.specs.Numbers.{sum, listed, place}
use Rattle.sharing.specs.ProRata.{plain}
use Rattle.sharing.specs.Rule.{Inputs}

-- ---- the entitlement ----

-- the party stands at the price; 0 is no party
abbrev pub stands : (party : ℕ) → (holders : List ℕ) → Bool
stands party holders = not (party == 0) && listed party holders

-- who may be entitled, 0 for nobody: the directed party where it stands, else the specialist where it stands
abbrev pub entitled : (specialist : ℕ) → Inputs → ℕ
entitled specialist i =
    cond (stands i.directed i.holders) i.directed (cond (stands specialist i.holders) specialist 0)

-- the specialist's percentage, by the number of its rivals, the other entries at the price
abbrev pub specialists : (rivals : ℕ) → ℕ
specialists rivals = cond (rivals == 1) 60 (cond (rivals == 2) 40 30)

-- the percentage to which a listed party is entitled, as the directed party, the specialist, or both: the larger;
-- none of an order of five contracts or fewer, and none without a rival
abbrev pub percentage : (rivals arriving : ℕ) → (directed specialist : Bool) → ℕ
percentage rivals arriving directed specialist =
    cond (nat_le arriving 5 || rivals == 0) 0
    (cond directed (cond specialist (max 40 (specialists rivals)) 40) (cond specialist (specialists rivals) 0))

-- the size that a holder has in the list, 0 where it is not there
abbrev pub size_of : ℕ → (holders sizes : List ℕ) → ℕ
size_of h [] [] = 0
size_of h [] (size ∷ sizes) = 0
size_of h (holder ∷ holders) [] = 0
size_of h (holder ∷ holders) (size ∷ sizes) = cond (h == holder) size (size_of h holders sizes)

-- the contracts to which a holder is entitled: its percentage rounded down, cut to its size
abbrev pub entitlement : (specialist holder : ℕ) → Inputs → ℕ
entitlement specialist h i =
    min (size_of h i.holders i.sizes)
    (i.number * percentage (length i.holders - 1) i.arriving (h == i.directed) (h == specialist) / 100)

-- an entitlement prevails where it is above that holder's plain share
abbrev pub prevails : (specialist : ℕ) → Inputs → Bool
prevails specialist i =
    let h : ℕ = entitled specialist i in
    not (h == 0) && nat_lt (size_of h i.holders i.sizes * i.number / sum i.sizes) (entitlement specialist h i)

-- one holder takes its entitlement; each other takes size × rest / others, rounded down
abbrev pub entitled_first : (h takes rest others : ℕ) → (holders sizes : List ℕ) → List ℕ
entitled_first h takes rest others [] [] = []
entitled_first h takes rest others [] (size ∷ sizes) = []
entitled_first h takes rest others (holder ∷ holders) [] = []
entitled_first h takes rest others (holder ∷ holders) (size ∷ sizes) =
    cond (h == holder) takes (size * rest / others) ∷ entitled_first h takes rest others holders sizes

-- the shares before leftovers: with the entitlement first where it prevails, else plain shares
abbrev pub base_shares : (specialist : ℕ) → Inputs → List ℕ
base_shares specialist i =
    let h : ℕ = entitled specialist i in
    let takes : ℕ = entitlement specialist h i in
    let total : ℕ = sum i.sizes in
    cond (prevails specialist i)
    (entitled_first h takes (i.number - takes) (total - size_of h i.holders i.sizes) i.holders i.sizes)
    (plain i.number total i.sizes)

-- ---- the leftovers ----

-- the holders with size unspent
abbrev pub unspent : (holders sizes shares : List ℕ) → List ℕ
unspent [] sizes shares = []
unspent (holder ∷ holders) [] shares = []
unspent (holder ∷ holders) (size ∷ sizes) [] = []
unspent (holder ∷ holders) (size ∷ sizes) (share ∷ shares) =
    let rest : List ℕ = unspent holders sizes shares in cond (nat_lt share size) (holder ∷ rest) rest

-- those of the first list that are in the second
abbrev pub among : List ℕ → List ℕ → List ℕ
among [] ys = []
among (x ∷ xs) ys = let rest : List ℕ = among xs ys in cond (listed x ys) (x ∷ rest) rest

-- those of the first list that are not in the second
abbrev pub outside : List ℕ → List ℕ → List ℕ
outside [] ys = []
outside (x ∷ xs) ys = let rest : List ℕ = outside xs ys in cond (listed x ys) rest (x ∷ rest)

-- the roster from the turn onward, round to the turn
abbrev pub round : (turn : ℕ) → (roster : List ℕ) → List ℕ
round turn roster = drop turn roster ++ take turn roster

-- the roster's holders that may take a leftover, in the order of taking
abbrev pub by_turn : (roster : List ℕ) (turn : ℕ) (open_to : List ℕ) → List ℕ
by_turn roster turn open_to = among (round turn roster) open_to

-- the same, as shares leave size unspent
abbrev pub takers : (roster : List ℕ) (turn : ℕ) (holders sizes shares : List ℕ) → List ℕ
takers roster turn holders sizes shares = by_turn roster turn (unspent holders sizes shares)

-- all that may take a leftover, in the order of taking: the roster's by turn, then the others in list order
abbrev pub queue : (roster : List ℕ) (turn : ℕ) (open_to : List ℕ) → List ℕ
queue roster turn open_to = by_turn roster turn open_to ++ outside open_to roster

-- one more contract to each of the receivers
abbrev pub with_leftovers : (receivers holders shares : List ℕ) → List ℕ
with_leftovers receivers [] shares = []
with_leftovers receivers (holder ∷ holders) [] = []
with_leftovers receivers (holder ∷ holders) (share ∷ shares) =
    (share + cond (listed holder receivers) 1 0) ∷ with_leftovers receivers holders shares

-- the place behind a party's in the roster; the first follows the last
abbrev pub behind : (roster : List ℕ) → ℕ → ℕ
behind roster h = cond (nat_lt (place roster h + 1) (length roster)) (place roster h + 1) 0

-- the turn after some of the roster received, one after another: behind the last; it stays where none did
abbrev pub turn_after : (roster : List ℕ) → (turn : ℕ) → (receivers : List ℕ) → ℕ
turn_after roster turn [] = turn
turn_after roster turn (h ∷ hs) = turn_after roster (behind roster h) hs

-- ---- the rule ----

-- the contracts left over by the base shares
abbrev pub left_over : (specialist : ℕ) → Inputs → ℕ
left_over specialist i = i.number - sum (base_shares specialist i)

-- the holders with size unspent by the base shares
abbrev pub open_holders : (specialist : ℕ) → Inputs → List ℕ
open_holders specialist i = unspent i.holders i.sizes (base_shares specialist i)

-- all sizes where the number covers them; else base shares and leftovers
abbrev pub draw_shares : (roster : List ℕ) (specialist turn : ℕ) → Inputs → List ℕ
draw_shares roster specialist turn i =
    cond (nat_le (sum i.sizes) i.number) i.sizes
    (with_leftovers (take (left_over specialist i) (queue roster turn (open_holders specialist i))) i.holders (base_shares specialist i))

-- the turn moves behind the last of the roster that received a leftover
abbrev pub draw_next : (roster : List ℕ) (specialist turn : ℕ) → Inputs → ℕ
draw_next roster specialist turn i =
    cond (nat_le (sum i.sizes) i.number) turn
    (turn_after roster turn (take (left_over specialist i) (by_turn roster turn (open_holders specialist i))))
