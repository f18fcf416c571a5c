-- A class that was served can be served again from where it now begins.
use Rattle.std.proofs.Common.{◌≡◌, ℕ, zero, suc, ◌+◌, ◌-◌, ◌≤◌, true, eqb, List, [], ◌∷◌, map, length, drop, sym, refl, ap, ◌∙◌, inl, inr, arith}
use Rattle.std.proofs.lemmas.List.{length-map, length-drop, drop-drop, drop-map}
use Rattle.std.proofs.lemmas.Bool.{cases_Bool, and_parts}
use Rattle.terms.specs.Numbers.{sum, distinct, within, all_within}
use Rattle.kept.specs.Standing.{Interest, with_left}
use Rattle.blocks.specs.declared.Fill.{Fill}
use Rattle.model.specs.Fills.{fills, given_to}
use Rattle.blocks.specs.Blocks.{filled_by}
use Rattle.model.specs.Tables.{holders_of, sizes_of}
use Rattle.serving.specs.Filling.{all_filled_in}
use Rattle.serving.specs.Stretch.{lower_all, here}
use Rattle.serving.specs.Serving.{Servable}
use Rattle.serving.proofs.Counting.{room_all}
use Rattle.serving.proofs.Stretches.{front_few}

-- ---- fills ----

fills_few : (t : List Interest) (sh : List ℕ) → length (fills t sh) ≤ length t
fills_few [] sh = omega arith
fills_few (r ∷ rs) [] = omega arith
fills_few (r ∷ rs) (n ∷ ns) =
    let ih = fills_few rs ns in elim (cases_Bool (eqb n 0)) [ inl e ↦ rw e (omega arith) | inr e ↦ rw e (omega arith) ]

fills_sum : (t : List Interest) (sh : List ℕ) → filled_by (fills t sh) ≤ sum sh
fills_sum [] sh = omega arith
fills_sum (r ∷ rs) [] = omega arith
fills_sum (r ∷ rs) (n ∷ ns) =
    let ih = fills_sum rs ns in elim (cases_Bool (eqb n 0)) [ inl e ↦ rw e (omega arith) | inr e ↦ rw e (omega arith) ]

-- ---- tables ----

holders_kept : {X : Type 0} (shown : X → Interest) (lower : X → ℕ → X) →
    ((x : X) (n : ℕ) → shown (lower x n) ≡ with_left ((shown x).left - n) (shown x)) → (fs : List Fill) (xs : List X) →
    holders_of (map shown (lower_all shown lower fs xs)) ≡ holders_of (map shown xs)
holders_kept shown lower shows fs [] = refl
holders_kept shown lower shows fs (x ∷ xs) =
    let e : (shown (lower x (given_to (shown x).holder fs))).holder ≡ (shown x).holder = ap (λ r. r.holder) (shows x (given_to (shown x).holder fs)) in
    ap (λ h. h ∷ holders_of (map shown (lower_all shown lower fs xs))) e ∙ ap (λ l. (shown x).holder ∷ l) (holders_kept shown lower shows fs xs)

all_drop : (most n : ℕ) (l : List ℕ) → all_within most l ≡ true → all_within most (drop n l) ≡ true
all_drop most zero l e = e
all_drop most (suc n) [] e = refl
all_drop most (suc n) (x ∷ l) e = all_drop most n l (and_parts (within most x) (all_within most l) e).1

pub servable_after : {X : Type 0} (shown : X → Interest) (lower : X → ℕ → X) →
    ((x : X) (n : ℕ) → shown (lower x n) ≡ with_left ((shown x).left - n) (shown x)) →
    (xs ys : List X) (from to p k n m : ℕ) (sh b b' : List ℕ) → Servable shown xs from k n b →
    to ≡ from + length (here shown from p xs) → ys ≡ lower_all shown lower (fills (here shown from p xs) sh) xs → drop to ys ≡ drop to xs →
    b' ≡ all_filled_in k (fills (here shown from p xs) sh) b → m ≡ n - sum sh → sum sh ≤ n → Servable shown ys to k m b'
servable_after {X} shown lower shows xs ys from to p k n m sh b b' v moved recs rest blk left le =
    let t : List Interest = here shown from p xs in
    let fs : List Fill = fills t sh in
    let ly : length ys ≡ length xs = ap length recs ∙ length-map xs (λ x. lower x (given_to (shown x).holder fs)) in
    let lt : length t ≤ length (map shown (drop from xs)) = front_few p (map shown (drop from xs)) in
    let lt' = length-map (drop from xs) shown in
    let lt'' = length-drop from xs in
    let inside = v.inside in
    let ff = fills_few t sh in
    let fm = fills_sum t sh in
    let n' : from + (to - from) ≡ to = omega arith in
    let dd : drop to ys ≡ drop (to - from) (drop from xs) = rest ∙ ap (λ z. drop z xs) (sym n') ∙ sym (drop-drop (to - from) from xs) in
    let sz : sizes_of (map shown (drop to ys)) ≡ drop (to - from) (sizes_of (map shown (drop from xs))) =
    ap (λ l. sizes_of (map shown l)) dd ∙ ap sizes_of (sym (drop-map shown (to - from) (drop from xs)))
    ∙ sym (drop-map (λ (r : Interest). r.left) (to - from) (map shown (drop from xs))) in
    record {
      inside = omega arith;
      once = ap (λ l. distinct (holders_of (map shown l))) recs ∙ ap distinct (holders_kept shown lower shows fs xs) ∙ v.once;
      sized = ap (all_within 99999) sz ∙ all_drop 99999 (to - from) (sizes_of (map shown (drop from xs))) v.sized;
      room = room_all k (length xs - from) n (length ys - to) m fs b b' v.room blk (omega arith) (omega arith);
    }
