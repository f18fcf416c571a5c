-- Where a new record goes in a list of ranked records, and what holds of every list that is kept so.
use Rattle.std.specs.Prelude.{◌≡◌, ℕ, Bool, true, not, ◌&&◌, ◌||◌, List, [], ◌∷◌, ◌++◌, fold, filter, slice_index_or}
use Rattle.std.specs.List.{prefix_len, insert, remove}

-- the place of a new record: behind all the leading ones that are no worse
abbrev pub place_of : {R : Type 0} → (no_worse : R → R → Bool) → R → List R → ℕ
place_of nw x xs = prefix_len (λ y. nw y x) xs

-- the list with a new record in its place
abbrev pub entered : {R : Type 0} → (no_worse : R → R → Bool) → R → List R → List R
entered nw x xs = insert xs (place_of nw x xs) x

-- the record is no worse than each of the others
abbrev pub leads : {R : Type 0} → (no_worse : R → R → Bool) → R → List R → Bool
leads nw x [] = true
leads nw x (y ∷ ys) = nw x y && leads nw x ys

-- best first: each record is no worse than all behind it
abbrev pub in_rank : {R : Type 0} → (no_worse : R → R → Bool) → List R → Bool
in_rank nw [] = true
in_rank nw (x ∷ xs) = leads nw x xs && in_rank nw xs

-- of two records, one is no worse than the other
abbrev pub Total : {R : Type 0} → (no_worse : R → R → Bool) → Type 0
Total {R} nw = (x y : R) → (nw x y || nw y x) ≡ true

-- "no worse" carries along a chain
abbrev pub Chained : {R : Type 0} → (no_worse : R → R → Bool) → Type 0
Chained {R} nw = (x y z : R) → nw x y ≡ true → nw y z ≡ true → nw x z ≡ true

-- two records have one rank
abbrev pub level : {R : Type 0} → (no_worse : R → R → Bool) → R → R → Bool
level nw x y = nw x y && nw y x

-- what holds where new records enter a list that is in rank
pub record Orderly {R : Type 0} (nw : R → R → Bool) : Type 0 where
  -- the list stays in rank
  pub stays_in_rank : (x : R) (xs : List R) → in_rank nw xs ≡ true → in_rank nw (entered nw x xs) ≡ true
  -- in front of the new record stand all that are no worse and no others, behind it the strictly worse, all in their old order
  pub behind_no_worse : (x : R) (xs : List R) → in_rank nw xs ≡ true →
      entered nw x xs ≡ filter (λ y. nw y x) xs ++ x ∷ filter (λ y. not (nw y x)) xs
  -- without the new record the list is the old one
  pub others_stay : (x : R) (xs : List R) → remove (entered nw x xs) (place_of nw x xs) ≡ xs
  -- and the new record stands at its place
  pub newcomer : (x d : R) (xs : List R) → slice_index_or (entered nw x xs) (place_of nw x xs) d ≡ x
  -- records of one rank stand in the order in which they arrived
  pub by_arrival : (x : R) (arrived : List R) →
      filter (level nw x) (fold (λ xs y. entered nw y xs) [] arrived) ≡ filter (level nw x) arrived

-- the law of insertion, under every order in which ranks are total and carry along a chain
abbrev pub InsertionIsOrderly : (R : Type 0) → Type 0
InsertionIsOrderly R = (nw : R → R → Bool) → Total nw → Chained nw → Orderly nw
