-- The two layouts of a block: for customers and firms, whose holders are orders, and for makers.
use Rattle.std.specs.Prelude.{ℕ, cond, Some, None, Option, Result, ◌==◌}
use Rattle.std.specs.Option.{ok_or}
use Rattle.terms.specs.declared.refusal.Refusal.{Refusal}
use Rattle.terms.specs.declared.refusal.Refusal.TheVariants.{WrongLength}
use Rattle.blocks.specs.declared.layout.Layout.{Layout}
use Rattle.blocks.specs.declared.layout.Layout.TheVariants.{Orders, Makers}

-- how many fills a block can show
abbrev pub places_of : Layout → ℕ
places_of Orders = 64
places_of Makers = 16

-- holders are numbered from 1 to this
abbrev pub most_holder : Layout → ℕ
most_holder Orders = 999999
most_holder Makers = 65535

-- the layout of a row of so many numbers
abbrev pub layout_of : (length : ℕ) → Option Layout
layout_of n = cond (n == 130) (Some Orders) (cond (n == 34) (Some Makers) None)

-- the same, or the refusal of the length
abbrev pub layout_or_refusal : (length : ℕ) → Result Layout Refusal
layout_or_refusal n = ok_or (layout_of n) WrongLength
