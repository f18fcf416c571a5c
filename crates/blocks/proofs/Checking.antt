-- What the program tests of a row, as it cuts the row, is what is asked of a written block.
use Rattle.std.proofs.Common.{◌≡◌, ℕ, ◌+◌, ◌-◌, ◌≤◌, Bool, true, not, ◌&&◌, eqb, ltb, leb, List, [], ◌∷◌, ◌++◌, length, take, drop, Some, None, Ok, Option, sym, ap, ◌∙◌, arith}
use Rattle.std.proofs.lemmas.List.{length_push, take-take}
use Rattle.std.proofs.lemmas.Bool.{and_parts, le-leb}
use Rattle.terms.specs.Numbers.{sum, listed, within}
use Rattle.std.specs.Option.{ok_or}
use Rattle.terms.specs.declared.refusal.Refusal.TheVariants.{WrongLength}
use Rattle.blocks.specs.declared.fill.Fill.{Fill}
use Rattle.blocks.specs.declared.layout.Layout.{Layout}
use Rattle.blocks.specs.declared.layout.Layout.TheVariants.{Orders, Makers}
use Rattle.blocks.specs.Layouts.{places_of, most_holder, layout_of, layout_or_refusal}
use Rattle.blocks.specs.Blocks.{holders_of, filled_by, block, fit}
use Rattle.blocks.specs.Reading.{count_in, total_in, holders_in, contracts_in, beside, fills_in, zeros, rest_zero, written, reads, reads_as}
use Rattle.blocks.specs.Writing.{Room, with_fill, added, added_as}
use Rattle.blocks.proofs.Parts.{holders_beside, contracts_beside, length_beside}
use Rattle.blocks.proofs.Fitting.{and_assoc, fit_parts, fit_push}
use Rattle.blocks.proofs.Filling.{filled_push}
use Rattle.blocks.proofs.Agreement.{length_by_layout, written_parts, firsts, block_of_written}

-- a layout that was read is that of the length
pub layout_read : (n : ℕ) (l : Layout) → Ok l ≡ layout_or_refusal n → Some l ≡ layout_of n
layout_read n l e = go (layout_of n) e
  where
    go : (o : Option Layout) → Ok l ≡ ok_or o WrongLength → Some l ≡ o
    go None e = cc
    go (Some k) e = grind arith

-- ---- the row as the program cuts it: p is the places as the program has them ----

pub cut_holders : (b : List ℕ) (k p : ℕ) → p ≡ k → take (2 + p - 2) (drop 2 b) ≡ holders_in k b
cut_holders b k p e = let i : 2 + p - 2 ≡ k = omega arith in ap (λ m. take m (drop 2 b)) i

pub cut_contracts : (b : List ℕ) (k p : ℕ) → p ≡ k → length b ≡ 2 + k + k → take (length b - (2 + p)) (drop (2 + p) b) ≡ contracts_in k b
cut_contracts b k p e long =
    let i : length b - (2 + p) ≡ k = omega arith in
    ap (λ m. take m (drop (2 + p) b)) i ∙ ap (λ m. take k (drop (2 + m) b)) e

pub cut_first_holders : (b : List ℕ) (k n : ℕ) → n ≤ k → take (2 + n - 2) (drop 2 b) ≡ take n (holders_in k b)
cut_first_holders b k n l =
    let i : 2 + n - 2 ≡ n = omega arith in
    ap (λ m. take m (drop 2 b)) i ∙ sym (take-take n k (drop 2 b) l)

pub cut_first_contracts : (b : List ℕ) (k p n : ℕ) → p ≡ k → n ≤ k → take (2 + p + n - (2 + p)) (drop (2 + p) b) ≡ take n (contracts_in k b)
cut_first_contracts b k p n e l =
    let i : 2 + p + n - (2 + p) ≡ n = omega arith in
    ap (λ m. take m (drop (2 + p) b)) i ∙ ap (λ m. take n (drop (2 + m) b)) e ∙ sym (take-take n k (drop (2 + k) b) l)

-- ---- reading ----

pub written_test : (l : Layout) (b hs ns : List ℕ) (n : ℕ) (x : Bool) → length b ≡ 2 + places_of l + places_of l → count_in b ≤ places_of l
    → n ≡ count_in b → hs ≡ holders_in (places_of l) b → ns ≡ contracts_in (places_of l) b
    → x ≡ (fit l (beside (take n hs) (take n ns)) && eqb (total_in b) (sum (take n ns)))
    → (x && (zeros (drop (count_in b) hs) && zeros (drop (count_in b) ns))) ≡ written l b
written_test l b hs ns n x long few en eh ec ex =
    let k : ℕ = places_of l in
    let f = firsts k b long few in
    let same : length (take (count_in b) (holders_in k b)) ≡ length (take (count_in b) (contracts_in k b)) = omega arith in
    let fs : List Fill = fills_in k b in
    let sums : filled_by fs ≡ sum (take (count_in b) (contracts_in k b)) =
    ap sum (contracts_beside (take (count_in b) (holders_in k b)) (take (count_in b) (contracts_in k b)) same) in
    rw (ex, en, eh, ec, ← sums, le-leb (count_in b) k few) (and_assoc (fit l fs) (eqb (total_in b) (filled_by fs)) (rest_zero k b))

pub reads_ok : (l : Layout) (b hs ns : List ℕ) → Some l ≡ layout_of (length b) → true ≡ written l b
    → hs ≡ take (count_in b) (holders_in (places_of l) b) → ns ≡ take (count_in b) (contracts_in (places_of l) b)
    → Ok (record { count = length hs; total = total_in b; fills = beside hs ns }) ≡ reads b
reads_ok l b hs ns e w eh ec =
    let k : ℕ = places_of l in
    let facts = written_parts l b (sym w) in
    let f = firsts k b (length_by_layout (length b) l e) facts.0 in
    let same : length hs ≡ length ns = ap length eh ∙ f.0 ∙ sym f.1 ∙ ap length (sym ec) in
    let fs : List Fill = beside hs ns in
    let shows : fs ≡ fills_in k b = ap (λ xs. beside xs ns) eh ∙ ap (beside (take (count_in b) (holders_in k b))) ec in
    let count : length hs ≡ length fs = sym (length_beside hs ns same) in
    let total : total_in b ≡ filled_by fs = facts.2 ∙ ap filled_by (sym shows) in
    let goal : reads b ≡ Ok (record { count = length fs; total = filled_by fs; fills = fs }) =
    ap (λ o. reads_as o b) (sym e) ∙ rw (sym w, shows) in
    sym (goal ∙ rw (sym count, sym total))

-- ---- writing ----

-- the fills that a written block shows
shows : (l : Layout) (b : List ℕ) → length b ≡ 2 + places_of l + places_of l → written l b ≡ true
    → (length (fills_in (places_of l) b) ≡ count_in b) × (holders_of (fills_in (places_of l) b) ≡ take (count_in b) (holders_in (places_of l) b))
shows l b long w =
    let k : ℕ = places_of l in
    let facts = written_parts l b w in
    let f = firsts k b long facts.0 in
    let hs : List ℕ = take (count_in b) (holders_in k b) in
    let ns : List ℕ = take (count_in b) (contracts_in k b) in
    let same : length hs ≡ length ns = omega arith in
    (length_beside hs ns same ∙ f.0, holders_beside hs ns same)

pub takes_test : (l : Layout) (b hs : List ℕ) (f : Fill) (x : Bool) → length b ≡ 2 + places_of l + places_of l → written l b ≡ true
    → hs ≡ take (count_in b) (holders_in (places_of l) b)
    → x ≡ (ltb (length hs) (places_of l) && (within (most_holder l) f.holder && not (listed f.holder hs)))
    → (x && (within 99999 f.contracts && leb (total_in b + f.contracts) 999999)) ≡ (written l b && fit l (with_fill l f b))
takes_test l b hs f x long w eh ex =
    let fs : List Fill = fills_in (places_of l) b in
    let facts = written_parts l b w in
    let s = shows l b long w in
    let hold : hs ≡ holders_of fs = eh ∙ sym s.1 in
    let many : length hs ≡ length fs = ap length eh ∙ (firsts (places_of l) b long facts.0).0 ∙ sym s.0 in
    rw (ex, w, many, hold, facts.2) (sym (fit_push l fs f facts.1))

pub few_places : (l : Layout) → places_of l ≤ 64
few_places Orders = omega arith
few_places Makers = omega arith

-- a block that takes a fill has room for it
pub room : (l : Layout) (b : List ℕ) (f : Fill) (p : ℕ) → p ≡ places_of l → Some l ≡ layout_of (length b)
    → true ≡ (written l b && fit l (with_fill l f b)) → Room p f.contracts b
room l b f p e o t =
    let k : ℕ = places_of l in
    let fs : List Fill = fills_in k b in
    let all : List Fill = with_fill l f b in
    let wf = and_parts (written l b) (fit l all) (sym t) in
    let fits = fit_parts l all wf.1 in
    let one = length_push fs f in
    let more = filled_push fs f in
    let few = few_places l in
    let shown = sym (block_of_written l b (length_by_layout (length b) l o) wf.0) in
    let count : count_in b ≡ length fs = ap count_in shown in
    let total : total_in b ≡ filled_by fs = ap total_in shown in
    record { long = length_by_layout (length b) l o ∙ ap (λ m. 2 + m + m) (sym e); few = omega arith; free = omega arith; most = omega arith }

pub added_ok : (l : Layout) (b after : List ℕ) (f : Fill) (p : ℕ) → p ≡ places_of l → Some l ≡ layout_of (length b)
    → true ≡ (written l b && fit l (with_fill l f b))
    → ((fs : List Fill) → b ≡ block p fs → after ≡ block p (fs ++ f ∷ []))
    → Ok after ≡ added f b
added_ok l b after f p e o t writes =
    let k : ℕ = places_of l in
    let wf = and_parts (written l b) (fit l (with_fill l f b)) (sym t) in
    let was : b ≡ block k (fills_in k b) = sym (block_of_written l b (length_by_layout (length b) l o) wf.0) in
    let is : after ≡ block k (with_fill l f b) =
    writes (fills_in k b) (was ∙ ap (λ m. block m (fills_in k b)) (sym e)) ∙ ap (λ m. block m (with_fill l f b)) e in
    ap Ok is ∙ sym (ap (λ o. added_as o f b) (sym o) ∙ rw (sym t))
