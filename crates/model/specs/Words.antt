-- The words of a day: classes, calls, how a call ends, events, and the row that they make.
use Rattle.std.specs.Prelude.{ℕ, cond, List, [], ◌∷◌, ◌==◌}
use Rattle.blocks.specs.declared.Layout.{Layout}
use Rattle.blocks.specs.declared.Layout.TheVariants.{Orders, Makers}
use Rattle.blocks.specs.Layouts.{places_of, most_holder}

infixl 20 ◌▸◌
-- ---- classes ----

-- public customers, whose orders come first
abbrev pub customer : ℕ
customer = 1

-- market makers, who quote
abbrev pub maker : ℕ
maker = 2

-- off-floor firms, whose orders come last
abbrev pub firm : ℕ
firm = 3

-- one thing for each class: tables, blocks, fills
pub record Three (A : Type 0) : Type 0 where
  pub customers : A
  pub makers : A
  pub firms : A

-- the one of a class; the calls see to it that the class is 1, 2 or 3
abbrev pub of : {A : Type 0} → (class : ℕ) → Three A → A
of class t = cond (class == customer) t.customers (cond (class == maker) t.makers t.firms)

-- the layout of a class's blocks
abbrev pub layout_for : (class : ℕ) → Layout
layout_for class = cond (class == maker) Makers Orders

-- how many records of a class may stand, and how many fills its block can show
abbrev pub places : (class : ℕ) → ℕ
places class = places_of (layout_for class)

-- the holders of a class are numbered from 1 to this
abbrev pub highest : (class : ℕ) → ℕ
highest class = most_holder (layout_for class)

-- ---- calls ----

-- three blocks, each a row of numbers
abbrev pub Blocks : Type 0
Blocks = Three (List ℕ)

-- a call, with any numbers; Trade is given what its three blocks hold
pub data Call : Type 0 where
  enter : (class number price size : ℕ) → Call
  reduce : (class number reduction : ℕ) → Call
  withdraw : (class number : ℕ) → Call
  quote : (party price size : ℕ) → Call
  trade : (limit size directed : ℕ) (given : Blocks) → Call
  tally : (class : ℕ) → Call

-- what a carried-out Trade answers, with its blocks as they then stand
pub record Traded : Type 0 where
  pub filled : ℕ
  pub left : ℕ
  pub blocks : Blocks

-- what a call answers when it is carried out
abbrev pub Answer : Call → Type 0
Answer (enter class number price size) = ℕ
Answer (reduce class number reduction) = ℕ
Answer (withdraw class number) = ℕ
Answer (quote party price size) = ℕ
Answer (trade limit size directed given) = Traded
Answer (tally class) = ℕ

-- a call is carried out with an answer, or turned away with a refusal's number
pub data Ending (A : Type 0) : Type 0 where
  answered : A → Ending A
  refused : ℕ → Ending A

-- ---- days ----

-- a call with its ending
pub data Event : Type 0 where
  event : (call : Call) → Ending (Answer call) → Event

-- a row in the order of the day, which grows at its end
pub data Row (A : Type 0) : Type 0 where
  ∅ : Row A
  ◌▸◌ : Row A → A → Row A

-- a list as a row, behind an earlier part of it
abbrev pub onto : {A : Type 0} → Row A → List A → Row A
onto r [] = r
onto r (x ∷ xs) = onto (r ▸ x) xs

-- a day: the events since Make
abbrev pub Day : Type 0
Day = Row Event
