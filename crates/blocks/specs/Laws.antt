-- The law of the block format: what is read is exactly what was written.
use Rattle.std.specs.Prelude.{◌≡◌, ℕ, true, List, Ok, Result}
use Rattle.blocks.specs.declared.fill.Fill.{Fill}
use Rattle.blocks.specs.declared.layout.Layout.{Layout}
use Rattle.blocks.specs.Layouts.{places_of}
use Rattle.blocks.specs.Blocks.{block, fit}
use Rattle.blocks.specs.Reading.{Shown, showing}

-- these fills write the row: they fit a layout, and the row is their block
abbrev pub Writes : List Fill → List ℕ → Type 0
Writes fs b = (l : Layout) × (fit l fs ≡ true) × (b ≡ block (places_of l) fs)

-- an answer to a row reads back: if some fills write the row, the answer shows just these
abbrev pub ReadsBack : List ℕ → Result Shown ℕ → Type 0
ReadsBack b answer = (fs : List Fill) → Writes fs b → answer ≡ Ok (showing fs)

-- an answer to a row reads only blocks: if it shows something, that is fills which write the row
abbrev pub ReadsOnlyBlocks : List ℕ → Result Shown ℕ → Type 0
ReadsOnlyBlocks b answer = (s : Shown) → answer ≡ Ok s → (fs : List Fill) × Writes fs b × (s ≡ showing fs)
