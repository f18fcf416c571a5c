-- What the draw rule's steps owe one another: where a party stands, which entitlement prevails, and what a round of leftovers gives.
use Rattle.std.specs.Prelude.{◌≡◌, ℕ, ◌-◌, ◌<◌, true, ◌≢◌, List, length, take}
use Rattle.terms.specs.Numbers.{place}
use Rattle.sharing.specs.Draw.{stands, entitled, entitlement, prevails, takers, turn_after, with_leftovers}
use Rattle.sharing.specs.Rule.{Inputs}

-- a number is a party's place among the holders
abbrev pub IsPlace : (at party : ℕ) → (holders : List ℕ) → Type 0
IsPlace at party holders = (at ≡ place holders party) × (at < length holders)

-- a party stands at a place
abbrev pub StandsAt : (at party : ℕ) → (holders : List ℕ) → Type 0
StandsAt at party holders = (stands party holders ≡ true) × IsPlace at party holders

-- somebody may be entitled, and stands at a place
abbrev pub EntitledAt : (at specialist : ℕ) → Inputs → Type 0
EntitledAt at specialist i = (entitled specialist i ≢ 0) × IsPlace at (entitled specialist i) i.holders

-- an entitlement prevails: its holder stands at a place, and takes so many
abbrev pub PrevailsAt : (at takes specialist : ℕ) → Inputs → Type 0
PrevailsAt at takes specialist i =
    (prevails specialist i ≡ true) × IsPlace at (entitled specialist i) i.holders × (takes ≡ entitlement specialist (entitled specialist i) i)

-- a round of leftovers by turn: from a turn, a number to give and shares, what is left, the turn and the shares afterwards
pub record Turned (roster : List ℕ) (turn number : ℕ) (holders sizes shares : List ℕ) (left after : ℕ) (given : List ℕ) : Type 0 where
  pub left_is : left ≡ number - length (takers roster turn holders sizes shares)
  pub turn_is : after ≡ turn_after roster turn (take number (takers roster turn holders sizes shares))
  pub shares_are : given ≡ with_leftovers (take number (takers roster turn holders sizes shares)) holders shares
