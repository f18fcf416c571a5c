-- How fills are laid out in a block, and which fills a block may show.
use Rattle.std.specs.Prelude.{ℕ, ◌-◌, Bool, ◌&&◌, List, ◌∷◌, ◌++◌, map, length, replicate, nat_le}
use Rattle.terms.specs.Numbers.{sum, distinct, all_within}
use Rattle.blocks.specs.declared.fill.Fill.{Fill}
use Rattle.blocks.specs.declared.layout.Layout.{Layout}
use Rattle.blocks.specs.Layouts.{places_of, most_holder}

abbrev pub holders_of : List Fill → List ℕ
holders_of fs = map (λ f. f.holder) fs

abbrev pub contracts_of : List Fill → List ℕ
contracts_of fs = map (λ f. f.contracts) fs

-- the contracts of some fills, added up
abbrev pub filled_by : List Fill → ℕ
filled_by fs = sum (contracts_of fs)

-- a row with zeros behind it, k numbers in all
abbrev pub padded : (k : ℕ) → List ℕ → List ℕ
padded k xs = xs ++ replicate (k - length xs) 0

-- the block of some fills: how many, their total, the holders, the contracts
abbrev pub block : (places : ℕ) → List Fill → List ℕ
block k fs = length fs ∷ filled_by fs ∷ padded k (holders_of fs) ++ padded k (contracts_of fs)

-- holders of a layout: each in range, and none twice
abbrev pub holders_fit : Layout → List ℕ → Bool
holders_fit l hs = all_within (most_holder l) hs && distinct hs

-- contracts of a trade: each in range, and so is their total
abbrev pub contracts_fit : List ℕ → Bool
contracts_fit ns = all_within 99999 ns && nat_le (sum ns) 999999

-- fills that fit a layout
abbrev pub fit : Layout → List Fill → Bool
fit l fs = nat_le (length fs) (places_of l) && (holders_fit l (holders_of fs) && contracts_fit (contracts_of fs))
