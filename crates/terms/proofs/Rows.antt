-- Rows of numbers: where a number stands, and what one more number at the end says.
use Rattle.std.proofs.Common.{◌≡◌, ℕ, ◌+◌, ◌*◌, ◌<◌, ◌≤◌, true, false, cond, not, nat_eq, eqb, leb, ltb, List, [], ◌∷◌, ◌++◌, length, fold, Some, None, inl, inr, unwrap_or, sym, refl, ◌∙◌, arith}
use Rattle.std.specs.List.{list_any, position, prefix_len}
use Rattle.std.proofs.lemmas.Bool.{and_parts, cases_Bool, leb-true, not-true}
use Rattle.std.proofs.lemmas.Bool.Decides.{nat_tests}
use Rattle.terms.specs.Numbers.{sum, listed, distinct, place, within, all_within}

-- ---- places ----

-- the first number that equals x stands at its place
place_first : (xs : List ℕ) (x : ℕ) → prefix_len (λ y. not (nat_eq y x)) xs ≡ place xs x
place_first [] x = refl
place_first (y ∷ ys) x = let a = place_first ys x in grind (arith, nat_tests)

-- who has a place before the end is listed
pub listed_place : (xs : List ℕ) (x : ℕ) → ltb (place xs x) (length xs) ≡ listed x xs
listed_place [] x = refl
listed_place (y ∷ ys) x = let a = listed_place ys x in grind (arith, nat_tests)

-- a number that equals one of the row is listed
pub listed_any : (xs : List ℕ) (x : ℕ) → list_any (λ y. nat_eq y x) xs ≡ listed x xs
listed_any [] x = refl
listed_any (y ∷ ys) x = let a = listed_any ys x in grind (arith, nat_tests)

pub found_place : (xs : List ℕ) (x : ℕ) → position (λ y. nat_eq y x) xs ≡ cond (listed x xs) (Some (place xs x)) None
found_place xs x = rw (place_first xs x, listed_place xs x) refl

-- a number that is not listed has its place behind the last
place_end : (xs : List ℕ) (x : ℕ) → listed x xs ≡ false → place xs x ≡ length xs
place_end [] x n = refl
place_end (y ∷ ys) x n = let a = place_end ys x in grind (arith, nat_tests)

pub place_or_end : (xs : List ℕ) (x : ℕ) → unwrap_or (position (λ y. nat_eq y x) xs) (length xs) ≡ place xs x
place_or_end xs x =
    rw (found_place xs x)
    (elim (cases_Bool (listed x xs)) [ inl t ↦ rw t refl | inr t ↦ rw t (sym (place_end xs x t)) ])

-- what was found, or was not
pub found_at : (xs : List ℕ) (x at : ℕ) → Some at ≡ position (λ y. nat_eq y x) xs → (at ≡ place xs x) × (at < length xs)
found_at xs x at e =
    let found = e ∙ found_place xs x in
    let there = listed_place xs x in (grind (arith, nat_tests), grind (arith, nat_tests))

pub found_nowhere : (xs : List ℕ) (x : ℕ) → None ≡ position (λ y. nat_eq y x) xs → length xs ≤ place xs x
found_nowhere xs x e =
    let found = e ∙ found_place xs x in
    let there = listed_place xs x in grind (arith, nat_tests)

-- ---- one more number at the end ----

pub distinct_push : (xs : List ℕ) (x : ℕ) → distinct xs ≡ true → listed x xs ≡ false → distinct (xs ++ x ∷ []) ≡ true
distinct_push [] x d n = refl
distinct_push (y ∷ ys) x d n =
    let w = and_parts (not (listed y ys)) (distinct ys) d in
    let more = distinct_push ys x w.1 (grind arith) in
    let here : listed y (ys ++ x ∷ []) ≡ false = listed_push ys x y (not-true (listed y ys) w.0) (grind (arith, nat_tests)) in rw (here, more)
  where
    listed_push : (zs : List ℕ) (a b : ℕ) → listed b zs ≡ false → eqb b a ≡ false → listed b (zs ++ a ∷ []) ≡ false
    listed_push [] a b n e = rw e
    listed_push (z ∷ zs) a b n e = let more = listed_push zs a b (grind arith) e in grind arith

pub ranged_push : (most : ℕ) (xs : List ℕ) (x : ℕ) → all_within most xs ≡ true → within most x ≡ true → all_within most (xs ++ x ∷ []) ≡ true
ranged_push most [] x d w = rw w
ranged_push most (y ∷ ys) x d w =
    let v = and_parts (within most y) (all_within most ys) d in rw v.0 (ranged_push most ys x v.1 w)

-- ---- sums ----

-- a running sum
pub sum_folded : (a : ℕ) (xs : List ℕ) → fold (λ b x. b + x) a xs ≡ a + sum xs
sum_folded a [] = omega arith
sum_folded a (x ∷ xs) = let e = sum_folded (a + x) xs in omega arith

-- numbers in range add up to no more than so many times the most
pub sum_most : (most : ℕ) (xs : List ℕ) → all_within most xs ≡ true → sum xs ≤ length xs * most
sum_most most [] v = omega arith
sum_most most (x ∷ xs) v =
    let w = and_parts (within most x) (all_within most xs) v in
    let a = sum_most most xs w.1 in
    let b = leb-true x most (and_parts (leb 1 x) (leb x most) w.0).1 in omega arith
