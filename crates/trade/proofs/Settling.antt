-- What a Trade leaves in its blocks and tables.
use Rattle.std.proofs.Common.{◌≡◌, ℕ, ◌+◌, ◌-◌, ◌≤◌, List, [], ◌∷◌, ◌++◌, map, length, take, sym, ap, ◌∙◌, arith}
use Rattle.std.proofs.lemmas.List.{append_assoc, append-nil, length_push}
use Rattle.blocks.specs.Blocks.{block}
use Rattle.blocks.specs.Reading.{count_in}
use Rattle.blocks.specs.declared.Fill.{Fill}
use Rattle.kept.specs.Standing.{Interest, with_left}
use Rattle.model.specs.Fills.{less}
use Rattle.serving.specs.Filling.{all_filled_in}
use Rattle.blocks.proofs.Filling.{filled_block}
use Rattle.serving.proofs.Counting.{count_all}
use Rattle.trade.specs.Compaction.{Compacts}
use Rattle.trade.specs.Rows.{SettlesRow}
use Rattle.trade.proofs.Leaving.{kept_less}

-- ---- blocks ----

all_block : (k : ℕ) (fs gs : List Fill) → length gs + length fs ≤ k → all_filled_in k fs (block k gs) ≡ block k (gs ++ fs)
all_block k [] gs l = ap (block k) (sym (append-nil gs))
all_block k (f ∷ fs) gs l =
    let p = length_push gs f in
    ap (all_filled_in k fs) (filled_block k gs f (omega arith)) ∙ all_block k fs (gs ++ f ∷ []) (omega arith) ∙ ap (block k) (append_assoc gs (f ∷ []) fs)

-- fills written into the block of none make their own block
pub block_made : (k : ℕ) (fs : List Fill) (z b : List ℕ) → z ≡ block k [] → b ≡ all_filled_in k fs z → count_in b ≤ k → b ≡ block k fs
block_made k fs z b e m few =
    let made : b ≡ all_filled_in k fs (block k []) = m ∙ ap (all_filled_in k fs) e in
    let count : count_in b ≡ 0 + length fs = ap count_in made ∙ count_all k fs (block k []) (omega arith) in
    made ∙ all_block k fs [] (let l : length {A = Fill} [] + length fs ≤ k = omega arith in l)

-- ---- tables ----

pub compacts_as : {X : Type 0} (shown : X → Interest) (blank : X) (ys zs : List X) (n : ℕ) (xs : List X) → ys ≡ zs → Compacts shown blank ys n xs → Compacts shown blank zs n xs
compacts_as shown blank ys zs n xs e c = rw e at c

-- the table that is left
pub table_left : {X : Type 0} {shown : X → Interest} {lower : X → ℕ → X} {blank : X} {fs : List Fill} {c n : ℕ} {xs ys : List X} →
    ((x : X) (n : ℕ) → shown (lower x n) ≡ with_left ((shown x).left - n) (shown x)) → SettlesRow shown lower blank fs c xs n ys →
    map shown (take n ys) ≡ less fs (map shown (take c xs))
table_left {shown = shown} {lower = lower} {fs = fs} {c = c} {xs = xs} shows s = ap (map shown) s.stand ∙ kept_less shown lower shows fs (take c xs)
