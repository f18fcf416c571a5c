-- What is read of a row of numbers: the fills of a written block, or a refusal.
use Rattle.std.specs.Prelude.{ℕ, ◌+◌, Bool, cond, ◌&&◌, List, [], ◌∷◌, length, take, drop, Some, None, Ok, Err, Option, Result, ◌==◌, nat_le, slice_index}
use Rattle.std.specs.List.{list_all}
use Rattle.terms.specs.declared.refusal.Refusal.{Refusal}
use Rattle.terms.specs.Refusals.{number_of}
use Rattle.blocks.specs.declared.fill.Fill.{Fill}
use Rattle.blocks.specs.declared.layout.Layout.{Layout}
use Rattle.blocks.specs.declared.reading.Written.{Written}
use Rattle.blocks.specs.Layouts.{places_of, layout_of}
use Rattle.blocks.specs.Blocks.{filled_by, fit}

-- the four parts of a block of k places: the fills and their total as it says, and its two arrays
abbrev pub count_in : List ℕ → ℕ
count_in b = slice_index b 0

abbrev pub total_in : List ℕ → ℕ
total_in b = slice_index b 1

abbrev pub holders_in : (places : ℕ) → List ℕ → List ℕ
holders_in k b = take k (drop 2 b)

abbrev pub contracts_in : (places : ℕ) → List ℕ → List ℕ
contracts_in k b = take k (drop (2 + k) b)

-- holders beside contracts
abbrev pub beside : (holders contracts : List ℕ) → List Fill
beside [] ns = []
beside (h ∷ hs) [] = []
beside (h ∷ hs) (n ∷ ns) = record { holder = h; contracts = n } ∷ beside hs ns

-- the fills that a block shows
abbrev pub fills_in : (places : ℕ) → List ℕ → List Fill
fills_in k b = beside (take (count_in b) (holders_in k b)) (take (count_in b) (contracts_in k b))

-- zeros alone
abbrev pub zeros : List ℕ → Bool
zeros ns = list_all (λ n. n == 0) ns

-- the entries of both arrays past the fills are 0
abbrev pub rest_zero : (places : ℕ) → List ℕ → Bool
rest_zero k b = zeros (drop (count_in b) (holders_in k b)) && zeros (drop (count_in b) (contracts_in k b))

-- a written block: its fills have places, they fit, the total is theirs, and the rest is 0
abbrev pub written : Layout → List ℕ → Bool
written l b =
    let k : ℕ = places_of l in
    nat_le (count_in b) k && (fit l (fills_in k b) && (total_in b == filled_by (fills_in k b) && rest_zero k b))

-- what a reader says: how many fills, their total, and the fills
pub record Shown : Type 0 where
  pub count : ℕ
  pub total : ℕ
  pub fills : List Fill

-- what is said of some fills
abbrev pub showing : List Fill → Shown
showing fs = record { count = length fs; total = filled_by fs; fills = fs }

-- what is read of a row, or the number of the refusal: 16 for a wrong length, 17 for what is not a written block
abbrev pub reads_as : Option Layout → List ℕ → Result Shown ℕ
reads_as None b = Err 16
reads_as (Some l) b = cond (written l b) (Ok (showing (fills_in (places_of l) b))) (Err 17)

abbrev pub reads : List ℕ → Result Shown ℕ
reads b = reads_as (layout_of (length b)) b

-- what a reader of the program says
abbrev pub shown : Written → Shown
shown w =
    record { count = length w.holders.now; total = w.total; fills = beside w.holders.now w.contracts.now }

-- what the program's `read` answers
abbrev pub answered : Result Written Refusal → Result Shown ℕ
answered (Ok w) = Ok (shown w)
answered (Err e) = Err (number_of e)
