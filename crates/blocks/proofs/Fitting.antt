-- Fills that fit a layout: holders beside contracts, and one fill more.
use Rattle.std.proofs.Common.{◌≡◌, ℕ, ◌+◌, ◌≤◌, Bool, true, false, not, ◌&&◌, ◌||◌, eqb, ltb, leb, List, [], ◌∷◌, ◌++◌, length, sym, refl, arith}
use Rattle.std.proofs.lemmas.List.{length_push, map_push}
use Rattle.std.proofs.lemmas.Bool.{and_parts, le-leb, leb-true, false≢true}
use Rattle.std.proofs.lemmas.Bool.Decides.{nat_tests}
use Rattle.terms.specs.Numbers.{sum, listed, distinct, within, all_within}
use Rattle.blocks.specs.declared.fill.Fill.{Fill}
use Rattle.blocks.specs.declared.layout.Layout.{Layout}
use Rattle.blocks.specs.Layouts.{places_of, most_holder}
use Rattle.blocks.specs.Blocks.{holders_of, contracts_of, filled_by, holders_fit, contracts_fit, fit}
use Rattle.blocks.specs.Reading.{beside}
use Rattle.blocks.proofs.Parts.{holders_beside, contracts_beside, length_beside}

pub and_assoc : (x y z : Bool) → ((x && y) && z) ≡ (x && (y && z))
and_assoc true y z = refl
and_assoc false y z = refl

-- both of two tests, where the first is known
pub and_on : (x y z : Bool) → (x && y) ≡ z → true ≡ x → y ≡ z
and_on true y z e t = e
and_on false y z e t = absurd (false≢true (sym t))

pub and_off : (x y z : Bool) → (x && y) ≡ z → false ≡ x → false ≡ z
and_off true y z e t = absurd (false≢true t)
and_off false y z e t = e

pub fit_beside : (l : Layout) (hs ns : List ℕ) (total : ℕ) → length hs ≡ length ns → length hs ≤ places_of l
    → (fit l (beside hs ns) && eqb total (sum ns)) ≡ (holders_fit l hs && (contracts_fit ns && eqb total (sum ns)))
fit_beside l hs ns total e few =
    rw (length_beside hs ns e, holders_beside hs ns e, contracts_beside hs ns e, le-leb (length hs) (places_of l) few)
    (and_assoc (holders_fit l hs) (contracts_fit ns) (eqb total (sum ns)))

-- what fills that fit are
pub fit_parts : (l : Layout) (fs : List Fill) → fit l fs ≡ true
    → (length fs ≤ places_of l) × (all_within (most_holder l) (holders_of fs) ≡ true) × (distinct (holders_of fs) ≡ true)
    × (all_within 99999 (contracts_of fs) ≡ true) × (filled_by fs ≤ 999999)
fit_parts l fs fits =
    let p = and_parts (leb (length fs) (places_of l)) (holders_fit l (holders_of fs) && contracts_fit (contracts_of fs)) fits in
    let q = and_parts (holders_fit l (holders_of fs)) (contracts_fit (contracts_of fs)) p.1 in
    let h = and_parts (all_within (most_holder l) (holders_of fs)) (distinct (holders_of fs)) q.0 in
    let n = and_parts (all_within 99999 (contracts_of fs)) (leb (filled_by fs) 999999) q.1 in
    (leb-true (length fs) (places_of l) p.0, h.0, h.1, n.0, leb-true (filled_by fs) 999999 n.1)

-- ---- one more ----

pub sum_push : (xs : List ℕ) (x : ℕ) → sum (xs ++ x ∷ []) ≡ sum xs + x
sum_push [] x = omega arith
sum_push (y ∷ ys) x = let ih = sum_push ys x in omega arith

within_push : (most : ℕ) (xs : List ℕ) (x : ℕ) → all_within most (xs ++ x ∷ []) ≡ (all_within most xs && within most x)
within_push most [] x = grind (arith, nat_tests)
within_push most (y ∷ ys) x = rw (within_push most ys x) (sym (and_assoc (within most y) (all_within most ys) (within most x)))

listed_push : (xs : List ℕ) (x y : ℕ) → listed y (xs ++ x ∷ []) ≡ (listed y xs || eqb y x)
listed_push [] x y = grind (arith, nat_tests)
listed_push (z ∷ zs) x y = let ih = listed_push zs x y in grind (arith, nat_tests)

distinct_push : (xs : List ℕ) (x : ℕ) → distinct (xs ++ x ∷ []) ≡ (distinct xs && not (listed x xs))
distinct_push [] x = refl
distinct_push (y ∷ ys) x =
    let ih = distinct_push ys x in
    let p = listed_push ys x y in
    grind (arith, nat_tests)

-- of fills that fit, with one more: whether that one fits behind them
pub fit_push : (l : Layout) (fs : List Fill) (f : Fill) → fit l fs ≡ true
    → fit l (fs ++ f ∷ [])
    ≡ ((ltb (length fs) (places_of l) && (within (most_holder l) f.holder && not (listed f.holder (holders_of fs))))
    && (within 99999 f.contracts && leb (filled_by fs + f.contracts) 999999))
fit_push l fs f fits =
    let p = fit_parts l fs fits in
    let x : Bool = ltb (length fs) (places_of l) in
    let y : Bool = within (most_holder l) f.holder && not (listed f.holder (holders_of fs)) in
    let z : Bool = within 99999 f.contracts && leb (filled_by fs + f.contracts) 999999 in
    let few : leb (length (fs ++ f ∷ [])) (places_of l) ≡ x = rw (length_push fs f) (grind (arith, nat_tests)) in
    let hs : holders_fit l (holders_of (fs ++ f ∷ [])) ≡ y =
    rw (map_push (λ g. g.holder) fs f, within_push (most_holder l) (holders_of fs) f.holder, distinct_push (holders_of fs) f.holder, p.1, p.2) in
    let ns : contracts_fit (contracts_of (fs ++ f ∷ [])) ≡ z =
    rw (map_push (λ g. g.contracts) fs f, within_push 99999 (contracts_of fs) f.contracts, sum_push (contracts_of fs) f.contracts, p.3) in
    rw (few, hs, ns) (sym (and_assoc x y z))
