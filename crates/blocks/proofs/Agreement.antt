-- What is read is what was written.
use Rattle.std.proofs.Common.{◌≡◌, ℕ, ◌+◌, ◌-◌, ◌≤◌, true, cond, ◌&&◌, eqb, leb, List, ◌∷◌, ◌++◌, length, take, drop, replicate, Some, None, Ok, Err, Option, Result, sym, refl, ap, ◌∙◌, inl, inr, arith}
use Rattle.std.proofs.lemmas.List.{length-map, length-take, length-drop, drop_at}
use Rattle.std.proofs.lemmas.Bool.{and_parts, and_from, le-leb, leb-true, eqb-true, eq-eqb, cases_Bool}
use Rattle.blocks.specs.declared.fill.Fill.{Fill}
use Rattle.blocks.specs.declared.layout.Layout.{Layout}
use Rattle.blocks.specs.declared.layout.Layout.TheVariants.{Orders, Makers}
use Rattle.blocks.specs.Layouts.{places_of, layout_of}
use Rattle.blocks.specs.Blocks.{holders_of, contracts_of, filled_by, padded, block, fit}
use Rattle.blocks.specs.Reading.{count_in, total_in, holders_in, contracts_in, fills_in, zeros, rest_zero, written, Shown, showing, reads, reads_as}
use Rattle.blocks.specs.Laws.{ReadsBack, ReadsOnlyBlocks}
use Rattle.blocks.proofs.Parts.{holders_beside, contracts_beside, length_beside, zeros_replicate, zeros_behind, length_block, holders_in_block, contracts_in_block, fills_in_block, row_parts}
use Rattle.blocks.proofs.Fitting.{fit_parts}

-- ---- lengths ----

pub layout_by_length : (l : Layout) → layout_of (2 + places_of l + places_of l) ≡ Some l
layout_by_length Orders = refl
layout_by_length Makers = refl

pub length_by_layout : (n : ℕ) (l : Layout) → Some l ≡ layout_of n → n ≡ 2 + places_of l + places_of l
length_by_layout n Orders e = grind arith
length_by_layout n Makers e = grind arith

-- ---- what is written is read ----

zeros_past : (k n : ℕ) (xs : List ℕ) → length xs ≡ n → zeros (drop n (padded k xs)) ≡ true
zeros_past k n xs e = rw (drop_at xs (replicate (k - length xs) 0) n e) (zeros_replicate (k - length xs))

pub written_block : (l : Layout) (fs : List Fill) → fit l fs ≡ true → written l (block (places_of l) fs) ≡ true
written_block l fs fits =
    let k : ℕ = places_of l in
    let few : length fs ≤ k = (fit_parts l fs fits).0 in
    let h : zeros (drop (length fs) (holders_in k (block k fs))) ≡ true =
    ap (λ xs. zeros (drop (length fs) xs)) (holders_in_block k fs few) ∙ zeros_past k (length fs) (holders_of fs) (length-map fs (λ f. f.holder)) in
    let n : zeros (drop (length fs) (contracts_in k (block k fs))) ≡ true =
    ap (λ xs. zeros (drop (length fs) xs)) (contracts_in_block k fs few) ∙ zeros_past k (length fs) (contracts_of fs) (length-map fs (λ f. f.contracts)) in
    let same : fills_in k (block k fs) ≡ fs = fills_in_block k fs few in
    and_from (leb (length fs) k) _ (le-leb (length fs) k few)
    (and_from (fit l (fills_in k (block k fs))) _ (ap (fit l) same ∙ fits)
    (and_from (eqb (filled_by fs) (filled_by (fills_in k (block k fs)))) (rest_zero k (block k fs)) (eq-eqb _ _ (ap filled_by (sym same)))
    (and_from (zeros (drop (length fs) (holders_in k (block k fs)))) (zeros (drop (length fs) (contracts_in k (block k fs)))) h n)))

pub reads_back : (b : List ℕ) → ReadsBack b (reads b)
reads_back b fs (l, fits, is) =
    let k : ℕ = places_of l in
    let few : length fs ≤ k = (fit_parts l fs fits).0 in
    ap reads is
    ∙ ap (λ n. reads_as (layout_of n) (block k fs)) (length_block k fs few)
    ∙ ap (λ o. reads_as o (block k fs)) (layout_by_length l)
    ∙ ap (λ t. cond t (Ok (showing (fills_in k (block k fs)))) (Err 17)) (written_block l fs fits)
    ∙ ap (λ gs. Ok (showing gs)) (fills_in_block k fs few)

-- ---- what is read was written ----

-- the facts of a written block
pub written_parts : (l : Layout) (b : List ℕ) → written l b ≡ true
    → (count_in b ≤ places_of l) × (fit l (fills_in (places_of l) b) ≡ true) × (total_in b ≡ filled_by (fills_in (places_of l) b))
    × (zeros (drop (count_in b) (holders_in (places_of l) b)) ≡ true) × (zeros (drop (count_in b) (contracts_in (places_of l) b)) ≡ true)
written_parts l b w =
    let k : ℕ = places_of l in
    let fs : List Fill = fills_in k b in
    let p = and_parts (leb (count_in b) k) (fit l fs && (eqb (total_in b) (filled_by fs) && rest_zero k b)) w in
    let q = and_parts (fit l fs) (eqb (total_in b) (filled_by fs) && rest_zero k b) p.1 in
    let r = and_parts (eqb (total_in b) (filled_by fs)) (rest_zero k b) q.1 in
    let z = and_parts (zeros (drop (count_in b) (holders_in k b))) (zeros (drop (count_in b) (contracts_in k b))) r.1 in
    (leb-true (count_in b) k p.0, q.0, eqb-true (total_in b) (filled_by fs) r.0, z.0, z.1)

module _ (k : ℕ) (b : List ℕ) (long : length b ≡ 2 + k + k) where
  pub length_holders_in : length (holders_in k b) ≡ k
  length_holders_in = simp (length-take, length-drop) (omega arith)

  pub length_contracts_in : length (contracts_in k b) ≡ k
  length_contracts_in = simp (length-take, length-drop) (omega arith)

-- the first fills of both arrays are as many as the block says
pub firsts : (k : ℕ) (b : List ℕ) → length b ≡ 2 + k + k → count_in b ≤ k
    → (length (take (count_in b) (holders_in k b)) ≡ count_in b) × (length (take (count_in b) (contracts_in k b)) ≡ count_in b)
firsts k b long few =
    let h = length_holders_in k b long in
    let n = length_contracts_in k b long in
    (length-take (count_in b) (holders_in k b) ∙ omega arith, length-take (count_in b) (contracts_in k b) ∙ omega arith)

pub block_of_written : (l : Layout) (b : List ℕ) → length b ≡ 2 + places_of l + places_of l → written l b ≡ true
    → block (places_of l) (fills_in (places_of l) b) ≡ b
block_of_written l b long w =
    let k : ℕ = places_of l in
    let n : ℕ = count_in b in
    let fs : List Fill = fills_in k b in
    let facts = written_parts l b w in
    let f = firsts k b long facts.0 in
    let hs : List ℕ = take n (holders_in k b) in
    let ns : List ℕ = take n (contracts_in k b) in
    let same : length hs ≡ length ns = omega arith in
    let e1 : length fs ≡ n = length_beside hs ns same ∙ f.0 in
    let e3 : padded k (holders_of fs) ≡ holders_in k b =
    ap (padded k) (holders_beside hs ns same) ∙ zeros_behind k n (holders_in k b) (length_holders_in k b long) facts.0 facts.3 in
    let e4 : padded k (contracts_of fs) ≡ contracts_in k b =
    ap (padded k) (contracts_beside hs ns same) ∙ zeros_behind k n (contracts_in k b) (length_contracts_in k b long) facts.0 facts.4 in
    ap (λ z. z ∷ filled_by fs ∷ (padded k (holders_of fs) ++ padded k (contracts_of fs))) e1
    ∙ ap (λ z. n ∷ z ∷ (padded k (holders_of fs) ++ padded k (contracts_of fs))) (sym facts.2)
    ∙ ap (λ z. n ∷ total_in b ∷ (z ++ padded k (contracts_of fs))) e3
    ∙ ap (λ z. n ∷ total_in b ∷ (holders_in k b ++ z)) e4 ∙ row_parts k b long

reads_only_as : (o : Option Layout) (b : List ℕ) → o ≡ layout_of (length b) → ReadsOnlyBlocks b (reads_as o b)
reads_only_as None b e s r = absurd (let z : ◌≡◌ {A = ℕ} 0 1 = cc in omega arith)
reads_only_as (Some l) b e s r =
    let fs : List Fill = fills_in (places_of l) b in
    elim (cases_Bool (written l b)) [
      | inl w ↦
          let same : s ≡ showing fs = let ok : ◌≡◌ {A = Result Shown ℕ} (Ok (showing fs)) (Ok s) = rw w at r in cc in
          (fs, (l, (written_parts l b w).1, sym (block_of_written l b (length_by_layout (length b) l e) w)), same)
      | inr w ↦ absurd (let no : ◌≡◌ {A = Result Shown ℕ} (Err 17) (Ok s) = rw w at r in let z : ◌≡◌ {A = ℕ} 0 1 = cc in omega arith)
    ]

pub reads_only_blocks : (b : List ℕ) → ReadsOnlyBlocks b (reads b)
reads_only_blocks b = reads_only_as (layout_of (length b)) b refl

-- the same of any answer that is what is read
pub back_as_read : (b : List ℕ) (a : Result Shown ℕ) → a ≡ reads b → ReadsBack b a
back_as_read b a e fs w = e ∙ reads_back b fs w

pub only_as_read : (b : List ℕ) (a : Result Shown ℕ) → a ≡ reads b → ReadsOnlyBlocks b a
only_as_read b a e s r = reads_only_blocks b s (sym e ∙ r)
