-- The parts of a block: fills as holders beside contracts, zeros behind them, and both arrays cut out again.
use Rattle.std.proofs.Common.{◌≡◌, ℕ, zero, suc, ◌+◌, ◌-◌, ◌<◌, ◌≤◌, true, eqb, List, [], ◌∷◌, ◌++◌, length, get_or, take, drop, replicate, Some, None, sym, refl, ap, ◌∙◌, arith}
use Rattle.std.specs.List.{slice_get}
use Rattle.std.proofs.lemmas.List.{length-append, length-map, length-replicate, length-take, length-drop, take_at, drop_at, take_all, take-append-drop}
use Rattle.std.proofs.lemmas.Bool.{eqb-true, and_parts}
use Rattle.blocks.specs.declared.fill.Fill.{Fill}
use Rattle.blocks.specs.Blocks.{holders_of, contracts_of, padded, block}
use Rattle.blocks.specs.Reading.{beside, zeros, count_in, total_in, holders_in, contracts_in, fills_in}

-- ---- holders beside contracts ----

pub beside_of : (fs : List Fill) → beside (holders_of fs) (contracts_of fs) ≡ fs
beside_of [] = refl
beside_of (f ∷ fs) = rw (beside_of fs)

pub holders_beside : (hs ns : List ℕ) → length hs ≡ length ns → holders_of (beside hs ns) ≡ hs
holders_beside [] ns e = refl
holders_beside (h ∷ hs) [] e = absurd (omega arith)
holders_beside (h ∷ hs) (n ∷ ns) e = rw (holders_beside hs ns (omega arith))

pub contracts_beside : (hs ns : List ℕ) → length hs ≡ length ns → contracts_of (beside hs ns) ≡ ns
contracts_beside [] [] e = refl
contracts_beside [] (n ∷ ns) e = absurd (omega arith)
contracts_beside (h ∷ hs) [] e = absurd (omega arith)
contracts_beside (h ∷ hs) (n ∷ ns) e = rw (contracts_beside hs ns (omega arith))

pub length_beside : (hs ns : List ℕ) → length hs ≡ length ns → length (beside hs ns) ≡ length hs
length_beside [] ns e = refl
length_beside (h ∷ hs) [] e = absurd (omega arith)
length_beside (h ∷ hs) (n ∷ ns) e = ap suc (length_beside hs ns (omega arith))

pub nth_beside : (hs ns : List ℕ) (i : ℕ) → i < length hs → i < length ns → Some (record { holder = get_or hs i 0; contracts = get_or ns i 0 }) ≡ slice_get (beside hs ns) i
nth_beside [] ns i l m = absurd (omega arith)
nth_beside (h ∷ hs) [] i l m = absurd (omega arith)
nth_beside (h ∷ hs) (n ∷ ns) zero l m = refl
nth_beside (h ∷ hs) (n ∷ ns) (suc i) l m = nth_beside hs ns i (omega arith) (omega arith)

pub no_holder : (hs ns : List ℕ) (i : ℕ) → length hs ≤ i → None ≡ slice_get (beside hs ns) i
no_holder [] ns i l = refl
no_holder (h ∷ hs) [] i l = refl
no_holder (h ∷ hs) (n ∷ ns) zero l = absurd (omega arith)
no_holder (h ∷ hs) (n ∷ ns) (suc i) l = no_holder hs ns i (omega arith)

pub no_contracts : (hs ns : List ℕ) (i : ℕ) → length ns ≤ i → None ≡ slice_get (beside hs ns) i
no_contracts [] ns i l = refl
no_contracts (h ∷ hs) [] i l = refl
no_contracts (h ∷ hs) (n ∷ ns) zero l = absurd (omega arith)
no_contracts (h ∷ hs) (n ∷ ns) (suc i) l = no_contracts hs ns i (omega arith)

-- ---- zeros ----

pub zeros_replicate : (n : ℕ) → zeros (replicate n 0) ≡ true
zeros_replicate zero = refl
zeros_replicate (suc n) = zeros_replicate n

pub zeros_are : (xs : List ℕ) → zeros xs ≡ true → xs ≡ replicate (length xs) 0
zeros_are [] e = refl
zeros_are (x ∷ xs) e =
    let p = and_parts (eqb x 0) (zeros xs) e in
    let h : x ≡ 0 = eqb-true x 0 p.0 in
    let t = zeros_are xs p.1 in
    ap (λ y. y ∷ xs) h ∙ ap (λ ys. 0 ∷ ys) t

-- ---- a row with zeros behind it ----

pub length_padded : (k : ℕ) (xs : List ℕ) → length xs ≤ k → length (padded k xs) ≡ k
length_padded k xs l = simp (length-append, length-replicate) (omega arith)

-- what has zeros from place n on is its first n numbers, padded
pub zeros_behind : (k n : ℕ) (xs : List ℕ) → length xs ≡ k → n ≤ k → zeros (drop n xs) ≡ true → padded k (take n xs) ≡ xs
zeros_behind k n xs e l z =
    let a : length (take n xs) ≡ n = length-take n xs ∙ omega arith in
    let b : length (drop n xs) ≡ k - n = length-drop n xs ∙ omega arith in
    let c : k - length (take n xs) ≡ length (drop n xs) = omega arith in
    ap (λ m. take n xs ++ replicate m 0) c ∙ ap (λ ys. take n xs ++ ys) (sym (zeros_are (drop n xs) z)) ∙ take-append-drop n xs

-- ---- a block cut into its parts ----

pub length_block : (k : ℕ) (fs : List Fill) → length fs ≤ k → length (block k fs) ≡ 2 + k + k
length_block k fs l =
    let h = length-map fs (λ f. f.holder) in
    let n = length-map fs (λ f. f.contracts) in
    let a = length-append (padded k (holders_of fs)) (padded k (contracts_of fs)) in
    let p = length_padded k (holders_of fs) (omega arith) in
    let q = length_padded k (contracts_of fs) (omega arith) in
    omega arith

pub holders_in_block : (k : ℕ) (fs : List Fill) → length fs ≤ k → holders_in k (block k fs) ≡ padded k (holders_of fs)
holders_in_block k fs l =
    let h = length-map fs (λ f. f.holder) in
    take_at (padded k (holders_of fs)) (padded k (contracts_of fs)) k (length_padded k (holders_of fs) (omega arith))

pub contracts_in_block : (k : ℕ) (fs : List Fill) → length fs ≤ k → contracts_in k (block k fs) ≡ padded k (contracts_of fs)
contracts_in_block k fs l =
    let h = length-map fs (λ f. f.holder) in
    let n = length-map fs (λ f. f.contracts) in
    let p = length_padded k (holders_of fs) (omega arith) in
    let q = length_padded k (contracts_of fs) (omega arith) in
    let e : 2 + k ≡ suc (suc k) = omega arith in
    let t : drop k (padded k (holders_of fs) ++ padded k (contracts_of fs)) ≡ padded k (contracts_of fs) =
    drop_at (padded k (holders_of fs)) (padded k (contracts_of fs)) k p in
    ap (λ m. take k (drop m (block k fs))) e ∙ ap (take k) t ∙ take_all k (padded k (contracts_of fs)) (omega arith)

-- a block shows the fills that it was written from
pub fills_in_block : (k : ℕ) (fs : List Fill) → length fs ≤ k → fills_in k (block k fs) ≡ fs
fills_in_block k fs l =
    let n : ℕ = length fs in
    let hs : List ℕ = holders_of fs in
    let ns : List ℕ = contracts_of fs in
    let a : take n (padded k hs) ≡ hs = take_at hs (replicate (k - length hs) 0) n (length-map fs (λ f. f.holder)) in
    let b : take n (padded k ns) ≡ ns = take_at ns (replicate (k - length ns) 0) n (length-map fs (λ f. f.contracts)) in
    ap (λ xs. beside (take n xs) (take n (contracts_in k (block k fs)))) (holders_in_block k fs l)
    ∙ ap (λ xs. beside (take n (padded k hs)) (take n xs)) (contracts_in_block k fs l)
    ∙ ap (λ xs. beside xs (take n (padded k ns))) a ∙ ap (beside hs) b ∙ beside_of fs

-- a row as long as a block is its four parts, one behind the other
pub row_parts : (k : ℕ) (b : List ℕ) → length b ≡ 2 + k + k → count_in b ∷ total_in b ∷ (holders_in k b ++ contracts_in k b) ≡ b
row_parts k [] e = absurd (omega arith)
row_parts k (c ∷ []) e = absurd (omega arith)
row_parts k (c ∷ t ∷ r) e =
    let i : 2 + k ≡ suc (suc k) = omega arith in
    let d = length-drop k r in
    ap (λ m. c ∷ t ∷ (take k r ++ take k (drop m (c ∷ t ∷ r)))) i
    ∙ ap (λ ys. c ∷ t ∷ (take k r ++ ys)) (take_all k (drop k r) (omega arith)) ∙ ap (λ ys. c ∷ t ∷ ys) (take-append-drop k r)
