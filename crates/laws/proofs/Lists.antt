-- Lists of numbers without repeats, and numbers within bounds.
use Rattle.std.proofs.Common.{◌≡◌, ℕ, ◌<◌, ◌≤◌, true, false, not, eqb, leb, List, [], ◌∷◌, map, sym, refl, inl, inr, arith}
use Rattle.std.specs.List.{AllByRecursion as All}
use Rattle.std.proofs.lemmas.Bool.Decides.{eqb_tells}
use Rattle.std.proofs.lemmas.Bool.{and_from, and_parts, or_cases, not-true, le-leb, leb-true, eqb-true, eq-eqb, ne_eqb, both_ways}
use Rattle.terms.specs.Numbers.{listed, distinct, within, all_within}

-- a test turned round
pub eqb_sym : (a b : ℕ) → eqb a b ≡ eqb b a
eqb_sym a b =
    elim (eqb_tells a b) [
      | inl e ↦ rw (e.0, eq-eqb b a (sym e.1))
      | inr e ↦ rw (e.0, ne_eqb b a (λ q. e.1 (sym q)))
    ]

-- no number stands twice
abbrev pub Once : List ℕ → Type 0
Once [] = Unit {0}
Once (x ∷ xs) = (listed x xs ≡ false) × Once xs

pub once_distinct : (xs : List ℕ) → Once xs → distinct xs ≡ true
once_distinct [] o = refl
once_distinct (x ∷ xs) o = and_from (not (listed x xs)) (distinct xs) (rw o.0) (once_distinct xs o.1)

pub distinct_once : (xs : List ℕ) → distinct xs ≡ true → Once xs
distinct_once [] d = tt
distinct_once (x ∷ xs) d =
    let w = and_parts (not (listed x xs)) (distinct xs) d in (not-true (listed x xs) w.0, distinct_once xs w.1)

-- what all have, one that is listed has
pub all_listed : (P : ℕ → Type 0) (ps : List ℕ) (k : ℕ) → All P ps → listed k ps ≡ true → P k
all_listed P [] k a e = absurd (both_ways false refl e)
all_listed P (p ∷ ps) k a e =
    elim (eqb_tells k p) [
      | inl w ↦ rw w.1 a.0
      | inr w ↦ all_listed P ps k a.1 (rw w.0 at e)
    ]

-- ---- bounds ----

pub within_parts : (most n : ℕ) → within most n ≡ true → (0 < n) × (n ≤ most)
within_parts most n e =
    let w = and_parts (leb 1 n) (leb n most) e in (leb-true 1 n w.0, leb-true n most w.1)

pub within_from : (most n : ℕ) → 0 < n → n ≤ most → within most n ≡ true
within_from most n a b = and_from (leb 1 n) (leb n most) (le-leb 1 n a) (le-leb n most b)

-- one that is listed among numbers within a bound is within it
pub listed_within : (most x : ℕ) (ys : List ℕ) → all_within most ys ≡ true → listed x ys ≡ true → within most x ≡ true
listed_within most x [] a e = absurd (both_ways false refl e)
listed_within most x (y ∷ ys) a e =
    let v = and_parts (within most y) (all_within most ys) a in
    elim (or_cases (eqb x y) (listed x ys) e) [
      | inl q ↦ rw (eqb-true x y q) v.0
      | inr q ↦ listed_within most x ys v.1 q
    ]

pub all_within_more : (m n : ℕ) (xs : List ℕ) → m ≤ n → all_within m xs ≡ true → all_within n xs ≡ true
all_within_more m n [] l e = refl
all_within_more m n (x ∷ xs) l e =
    let v = and_parts (within m x) (all_within m xs) e in
    let b = within_parts m x v.0 in
    and_from (within n x) (all_within n xs) (within_from n x b.0 (omega arith)) (all_within_more m n xs l v.1)

-- bounds of the numbers that a list's elements have
pub all_within_map : {X : Type 0} (f : X → ℕ) (most : ℕ) (xs : List X) → All (λ x. within most (f x) ≡ true) xs → all_within most (map f xs) ≡ true
all_within_map f most [] a = refl
all_within_map f most (x ∷ xs) a = and_from (within most (f x)) (all_within most (map f xs)) a.0 (all_within_map f most xs a.1)

pub map_within : {X : Type 0} (f : X → ℕ) (most : ℕ) (xs : List X) → all_within most (map f xs) ≡ true → All (λ x. (0 < f x) × (f x ≤ most)) xs
map_within f most [] e = tt
map_within f most (x ∷ xs) e =
    let v = and_parts (within most (f x)) (all_within most (map f xs)) e in (within_parts most (f x) v.0, map_within f most xs v.1)
