-- A sharing rule: what it is given, what it means, and what every rule owes.
use Rattle.std.specs.Prelude.{◌≡◌, ℕ, ◌≤◌, min, true, ◌⊎◌, List, [], ◌∷◌, length}
use Rattle.terms.specs.Numbers.{sum, distinct, all_within}

-- what a rule is given: holders and sizes of the entries at a price in list order, the contracts that arrived there,
-- the number of them to share among these entries, and the directed party (0 for none)
pub record Inputs : Type 0 where
  pub holders : List ℕ
  pub sizes : List ℕ
  pub arriving : ℕ
  pub number : ℕ
  pub directed : ℕ

-- inputs from their five parts
abbrev pub inputs : (holders sizes : List ℕ) → (arriving number directed : ℕ) → Inputs
inputs holders sizes arriving number directed =
    record { holders = holders; sizes = sizes; arriving = arriving; number = number; directed = directed }

-- inputs that a book may give: at most 64 entries, each holder once, sizes from 1 to 99,999, no more to share than arrived
pub record Valid (i : Inputs) : Type 0 where
  pub paired : length i.sizes ≡ length i.holders
  pub few : length i.holders ≤ 64
  pub once : distinct i.holders ≡ true
  pub sized : all_within 99999 i.sizes ≡ true
  pub share : i.number ≤ i.arriving
  pub arrives : i.arriving ≤ 999999

-- one share for each entry, and none above its size
abbrev pub EachWithin : (shares sizes : List ℕ) → Type 0
EachWithin [] [] = Unit {0}
EachWithin [] (size ∷ sizes) = ⊥
EachWithin (share ∷ shares) [] = ⊥
EachWithin (share ∷ shares) (size ∷ sizes) = (share ≤ size) × EachWithin shares sizes

-- fair shares of a number among sizes: none above its size, and all of the number is shared unless the sizes run out
pub record Fair (number : ℕ) (sizes shares : List ℕ) : Type 0 where
  pub inside : EachWithin shares sizes
  pub adds_up : sum shares ≡ min number (sum sizes)

-- what every rule owes: fair shares at all valid inputs, and a state that stays where there is nothing to share or nobody to share with
pub record Lawful {S : Type 0} (shares : S → Inputs → List ℕ) (next : S → Inputs → S) : Type 0 where
  pub fair : (s : S) (i : Inputs) → Valid i → Fair i.number i.sizes (shares s i)
  pub still : (s : S) (i : Inputs) → Valid i → (i.number ≡ 0) ⊎ (i.holders ≡ []) → next s i ≡ s
