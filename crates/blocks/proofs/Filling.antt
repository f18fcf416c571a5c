-- A block filled one fill at a time.
use Rattle.std.proofs.Common.{◌≡◌, ℕ, suc, ◌+◌, ◌-◌, ◌<◌, List, [], ◌∷◌, ◌++◌, length, set, replicate, sym, ap, ◌∙◌, arith}
use Rattle.std.proofs.lemmas.List.{append_assoc, length-map, length-set, length_push, map_push, set_at, set-append_left, set-append_right, replicate-append-replicate}
use Rattle.blocks.specs.declared.fill.Fill.{Fill}
use Rattle.blocks.specs.Blocks.{holders_of, contracts_of, filled_by, padded, block}
use Rattle.blocks.specs.Writing.{filled_in}
use Rattle.blocks.proofs.Parts.{length_padded}
use Rattle.blocks.proofs.Fitting.{sum_push}

-- zeros alone are the block of no fills
pub blank_block : (k n : ℕ) → n ≡ 2 + k + k → replicate n 0 ≡ block k []
blank_block k n e =
    let i : n ≡ suc (suc (k + k)) = omega arith in
    let z : k ≡ k - 0 = omega arith in
    ap (λ m. replicate m 0) i ∙ ap (λ r. 0 ∷ 0 ∷ r) (sym (replicate-append-replicate k k 0))
    ∙ ap (λ m. 0 ∷ 0 ∷ (replicate m 0 ++ replicate m 0)) z

padded_push : (k : ℕ) (xs : List ℕ) (x c : ℕ) → length xs ≡ c → c < k → set (padded k xs) c x ≡ padded k (xs ++ x ∷ [])
padded_push k xs x c e l =
    let j : ℕ = k - c - 1 in
    let a : k - length xs ≡ suc j = omega arith in
    let b : k - length (xs ++ x ∷ []) ≡ j = let p = length_push xs x in omega arith in
    ap (λ m. set (xs ++ replicate m 0) c x) a ∙ set_at xs 0 (replicate j 0) x c e
    ∙ sym (append_assoc xs (x ∷ []) (replicate j 0)) ∙ ap (λ m. (xs ++ x ∷ []) ++ replicate m 0) (sym b)

-- both arrays written at their place c
written_parts : (k c t h n : ℕ) (P Q : List ℕ) → length P ≡ k → c < k →
    filled_in k (record { holder = h; contracts = n }) (c ∷ t ∷ (P ++ Q)) ≡ (c + 1) ∷ (t + n) ∷ (set P c h ++ set Q c n)
unfolding filled_in
written_parts k c t h n P Q e l =
    let i : 2 + c ≡ suc (suc c) = omega arith in
    let j : 2 + k + c ≡ suc (suc (k + c)) = omega arith in
    let lp : length (set P c h) ≡ k = length-set P c h ∙ e in
    let d : k + c - k ≡ c = omega arith in
    let first : set (c ∷ t ∷ (P ++ Q)) (2 + c) h ≡ c ∷ t ∷ (set P c h ++ Q) =
    ap (λ m. set (c ∷ t ∷ (P ++ Q)) m h) i ∙ ap (λ r. c ∷ t ∷ r) (set-append_left P Q c h (omega arith)) in
    let second : set (c ∷ t ∷ (set P c h ++ Q)) (2 + k + c) n ≡ c ∷ t ∷ (set P c h ++ set Q c n) =
    ap (λ m. set (c ∷ t ∷ (set P c h ++ Q)) m n) j
    ∙ ap (λ r. c ∷ t ∷ r) (set-append_right (set P c h) Q k (k + c) n lp (omega arith) ∙ ap (λ m. set P c h ++ set Q m n) d) in
    ap (λ r. set (set r 0 (c + 1)) 1 (t + n)) (ap (λ r. set r (2 + k + c) n) first ∙ second)

pub filled_push : (fs : List Fill) (f : Fill) → filled_by (fs ++ f ∷ []) ≡ filled_by fs + f.contracts
filled_push fs f = rw (map_push (λ g. g.contracts) fs f) (sum_push (contracts_of fs) f.contracts)

-- a fill written into the block of some fills makes the block of these and the fill
pub filled_block : (k : ℕ) (fs : List Fill) (f : Fill) → length fs < k → filled_in k f (block k fs) ≡ block k (fs ++ f ∷ [])
filled_block k fs f l =
    let hs : List ℕ = holders_of fs in
    let ns : List ℕ = contracts_of fs in
    let c : ℕ = length fs in
    let all : List Fill = fs ++ f ∷ [] in
    let lh : length hs ≡ c = length-map fs (λ g. g.holder) in
    let ln : length ns ≡ c = length-map fs (λ g. g.contracts) in
    let e1 : c + 1 ≡ length all = sym (length_push fs f) in
    let e2 : filled_by fs + f.contracts ≡ filled_by all = sym (filled_push fs f) in
    let e3 : set (padded k hs) c f.holder ≡ padded k (holders_of all) =
    padded_push k hs f.holder c lh l ∙ ap (padded k) (sym (map_push (λ g. g.holder) fs f)) in
    let e4 : set (padded k ns) c f.contracts ≡ padded k (contracts_of all) =
    padded_push k ns f.contracts c ln l ∙ ap (padded k) (sym (map_push (λ g. g.contracts) fs f)) in
    written_parts k c (filled_by fs) f.holder f.contracts (padded k hs) (padded k ns) (length_padded k hs (omega arith)) l
    ∙ ap (λ z. z ∷ (filled_by fs + f.contracts) ∷ (set (padded k hs) c f.holder ++ set (padded k ns) c f.contracts)) e1
    ∙ ap (λ z. length all ∷ z ∷ (set (padded k hs) c f.holder ++ set (padded k ns) c f.contracts)) e2
    ∙ ap (λ z. length all ∷ filled_by all ∷ (z ++ set (padded k ns) c f.contracts)) e3
    ∙ ap (λ z. length all ∷ filled_by all ∷ (padded k (holders_of all) ++ z)) e4
