-- How often a number stands in a list, and what that says of the lists that leftovers go by.
use Rattle.std.specs.Prelude.{◌≡◌, ℕ, zero, suc, ◌+◌, ◌<◌, ◌≤◌, true, false, cond, not, ◌⊎◌, List, [], ◌∷◌, ◌++◌, length, take, drop, ◌==◌, refl}
use Rattle.std.proofs.Common.{sym, ap, inr, arith}
use Rattle.std.proofs.lemmas.Bool.{and_parts, not-true}
use Rattle.std.proofs.lemmas.Bool.Decides.{nat_tests}
use Rattle.std.proofs.lemmas.List.{take-append-drop}
use Rattle.sharing.specs.Draw.{among, outside, round}
use Rattle.terms.specs.Numbers.{listed, distinct}

abbrev pub count : ℕ → List ℕ → ℕ
count x [] = 0
count x (y ∷ ys) = cond (x == y) 1 0 + count x ys

-- none stands twice
abbrev pub Single : List ℕ → Type 0
Single xs = (x : ℕ) → count x xs ≤ 1

pub listed_tells : (x : ℕ) (xs : List ℕ) → ((listed x xs ≡ true) × (0 < count x xs)) ⊎ ((listed x xs ≡ false) × (count x xs ≡ 0))
listed_tells x [] = inr (refl, refl)
listed_tells x (y ∷ ys) = let a = listed_tells x ys in grind arith

pub distinct_single : (xs : List ℕ) → distinct xs ≡ true → Single xs
distinct_single [] d x = omega arith
distinct_single (y ∷ ys) d x =
    let w = and_parts (not (listed y ys)) (distinct ys) d in
    let u = not-true (listed y ys) w.0 in
    let a = distinct_single ys w.1 x in
    grind (arith, nat_tests, listed_tells y ys)

-- the rest of a list without repeats
pub single_rest : (x : ℕ) (xs : List ℕ) → Single (x ∷ xs) → Single xs
single_rest x xs o y = omega (arith, o y)

pub single_first : (x : ℕ) (xs : List ℕ) → Single (x ∷ xs) → count x xs ≡ 0
single_first x xs o = grind (arith, nat_tests, o x)

-- counts of lists that are made of others
pub count_append : (x : ℕ) (xs ys : List ℕ) → count x (xs ++ ys) ≡ count x xs + count x ys
count_append x [] ys = omega arith
count_append x (z ∷ zs) ys = let a = count_append x zs ys in omega arith

pub count_take : (x n : ℕ) (xs : List ℕ) → count x (take n xs) ≤ count x xs
count_take x zero xs = omega arith
count_take x (suc n) [] = omega arith
count_take x (suc n) (y ∷ ys) = let a = count_take x n ys in omega arith

pub count_round : (x turn : ℕ) (xs : List ℕ) → count x (round turn xs) ≡ count x xs
count_round x turn xs =
    let a = count_append x (drop turn xs) (take turn xs) in
    let b = count_append x (take turn xs) (drop turn xs) in
    let c = ap (count x) (take-append-drop turn xs) in omega arith

pub count_among : (x : ℕ) (xs ys : List ℕ) → count x (among xs ys) ≡ cond (listed x ys) (count x xs) 0
count_among x [] ys = grind arith
count_among x (z ∷ zs) ys = let a = count_among x zs ys in grind (arith, nat_tests)

pub count_outside : (x : ℕ) (xs ys : List ℕ) → count x (outside xs ys) ≡ cond (listed x ys) 0 (count x xs)
count_outside x [] ys = grind arith
count_outside x (z ∷ zs) ys = let a = count_outside x zs ys in grind (arith, nat_tests)

-- lengths of the two parts, and of what two lists share
pub length_parts : (xs ys : List ℕ) → length (among xs ys) + length (outside xs ys) ≡ length xs
length_parts [] ys = omega arith
length_parts (x ∷ xs) ys = let a = length_parts xs ys in grind arith

among_none : (xs : List ℕ) → length (among xs []) ≡ 0
among_none [] = refl
among_none (x ∷ xs) = among_none xs

among_first : (x : ℕ) (xs ys : List ℕ) → listed x xs ≡ false → length (among ys (x ∷ xs)) ≡ count x ys + length (among ys xs)
among_first x xs [] n = omega arith
among_first x xs (y ∷ ys) n = let a = among_first x xs ys n in grind (arith, nat_tests)

pub among_swap : (xs ys : List ℕ) → Single xs → Single ys → length (among xs ys) ≡ length (among ys xs)
among_swap [] ys o u = sym (among_none ys)
among_swap (x ∷ xs) ys o u =
    let a = among_swap xs ys (single_rest x xs o) u in
    let n = single_first x xs o in
    let b : listed x xs ≡ false = grind (arith, listed_tells x xs) in
    let c = among_first x xs ys b in
    grind (arith, listed_tells x ys, u x)

pub among_all : (xs ys : List ℕ) → ((x : ℕ) → 0 < count x xs → listed x ys ≡ true) → among xs ys ≡ xs
among_all [] ys k = refl
among_all (x ∷ xs) ys k =
    let a = among_all xs ys (λ y p. k y (omega arith)) in
    let here : listed x ys ≡ true = k x (grind (arith, nat_tests)) in rw (here, a)

pub among_same : (xs ys zs : List ℕ) → ((x : ℕ) → count x ys ≡ count x zs) → among xs ys ≡ among xs zs
among_same [] ys zs k = refl
among_same (x ∷ xs) ys zs k =
    let a = among_same xs ys zs k in
    let here : listed x ys ≡ listed x zs = grind (arith, listed_tells x ys, listed_tells x zs, k x) in rw (here, a)
