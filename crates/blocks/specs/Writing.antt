-- What clearing a block and adding a fill to it leave, or how they are refused.
use Rattle.std.specs.Prelude.{◌≡◌, ℕ, ◌+◌, ◌<◌, ◌≤◌, cond, ◌&&◌, List, [], ◌∷◌, ◌++◌, length, Some, None, Ok, Err, Option, Result, slice_set}
use Rattle.terms.specs.declared.refusal.Refusal.{Refusal}
use Rattle.terms.specs.Refusals.{number_of}
use Rattle.blocks.specs.declared.fill.Fill.{Fill}
use Rattle.blocks.specs.declared.layout.Layout.{Layout}
use Rattle.blocks.specs.Layouts.{places_of, layout_of}
use Rattle.blocks.specs.Blocks.{block, fit}
use Rattle.blocks.specs.Reading.{count_in, total_in, fills_in, written}

-- the row after it is cleared: the block of no fills; 16 for a wrong length
abbrev pub cleared_as : Option Layout → Result (List ℕ) ℕ
cleared_as None = Err 16
cleared_as (Some l) = Ok (block (places_of l) [])

abbrev pub cleared : List ℕ → Result (List ℕ) ℕ
cleared b = cleared_as (layout_of (length b))

-- the fills of a block, and one behind them
abbrev pub with_fill : Layout → Fill → List ℕ → List Fill
with_fill l f b = fills_in (places_of l) b ++ f ∷ []

-- the row after a fill is added: the block of all its fills and this one;
-- 16 for a wrong length, 17 for what is not a written block, or would be none with the fill
abbrev pub added_as : Option Layout → Fill → List ℕ → Result (List ℕ) ℕ
added_as None f b = Err 16
added_as (Some l) f b = cond (written l b && fit l (with_fill l f b)) (Ok (block (places_of l) (with_fill l f b))) (Err 17)

abbrev pub added : Fill → List ℕ → Result (List ℕ) ℕ
added f b = added_as (layout_of (length b)) f b

-- how a call on a block ended: the row that it left, or the number of its refusal
abbrev pub left_by : Result (Unit {0}) Refusal → (after : List ℕ) → Result (List ℕ) ℕ
left_by (Ok _) after = Ok after
left_by (Err e) after = Err (number_of e)

-- a row with room for a fill of so many contracts: it is as long as a block of its places, a place is free, and the total is not passed
pub record Room (places contracts : ℕ) (b : List ℕ) : Type 0 where
  pub long : length b ≡ 2 + places + places
  pub few : places ≤ 64
  pub free : count_in b < places
  pub most : total_in b + contracts ≤ 999999

-- the row after the four writes of a fill: its holder, its contracts, the count, the total
unfoldable pub filled_in : (places : ℕ) → Fill → List ℕ → List ℕ
filled_in k f b =
    slice_set (slice_set (slice_set (slice_set b (2 + count_in b) f.holder) (2 + k + count_in b) f.contracts) 0 (count_in b + 1)) 1 (total_in b + f.contracts)
