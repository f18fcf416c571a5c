-- A block that fills are written into, one behind another.
use Rattle.std.specs.Prelude.{◌≡◌, ℕ, ◌+◌, ◌≤◌, List, [], ◌∷◌, length}
use Rattle.blocks.specs.Reading.{count_in, total_in}
use Rattle.blocks.specs.Writing.{filled_in}
use Rattle.blocks.specs.declared.Fill.{Fill}

-- a row as long as a block of its places, with places for so many more fills, and a total for so many more contracts
pub record Roomy (places fills contracts : ℕ) (b : List ℕ) : Type 0 where
  pub long : length b ≡ 2 + places + places
  pub few : places ≤ 64
  pub free : count_in b + fills ≤ places
  pub most : total_in b + contracts ≤ 999999

-- the row after some fills are written into it
abbrev pub all_filled_in : (places : ℕ) → List Fill → List ℕ → List ℕ
all_filled_in k [] b = b
all_filled_in k (f ∷ fs) b = all_filled_in k fs (filled_in k f b)
