-- A kept list: the records that stand in it, and how its places read after each call.
use Rattle.std.specs.Prelude.{◌≡◌, ℕ, ◌+◌, ◌-◌, ◌<◌, ◌≤◌, Bool, true, false, ◌&&◌, List, [], ◌∷◌, ◌++◌, length, take, drop, replicate, Some, None, Ok, Err, Option, Result, nat_lt, slice_set}
use Rattle.std.specs.Borrow.{MutBor}
use Rattle.std.specs.List.{insert, remove, slice_get}
use Rattle.kept.specs.Inserting.{place_of, in_rank}
use Rattle.kept.specs.declared.list.KeptList.{KeptList}

-- every place that the list was lent
abbrev pub places : {R : Type 0} → KeptList R → List R
places l = l.slots.now

-- the records that stand: those of the first places, as many as are counted
abbrev pub standing : {R : Type 0} → KeptList R → List R
standing l = take l.count (places l)

-- the places behind the records that stand
abbrev pub behind : {R : Type 0} → KeptList R → List R
behind l = drop l.count (places l)

-- another record may stand, and has a place
abbrev pub has_room : {R : Type 0} → KeptList R → Bool
has_room l = nat_lt l.count l.bound && nat_lt l.count (length (places l))

-- every record passes a test
abbrev pub all : {R : Type 0} → (test : R → Bool) → List R → Bool
all test [] = true
all test (x ∷ xs) = test x && all test xs

-- what a list keeps from call to call: its bounds, records best first, and vacant places behind them up to the bound
abbrev pub Sound : {R : Type 0} → (no_worse : R → R → Bool) → (vacant : R → Bool) → KeptList R → Type 0
Sound nw vacant l =
    (l.count ≤ l.bound) × (l.bound ≤ length (places l)) × (in_rank nw (standing l) ≡ true)
    × (all vacant (take (l.bound - l.count) (behind l)) ≡ true)

-- the list is kept so under every test that the record of a cleared place passes
abbrev pub StaysSound : {R : Type 0} → (no_worse : R → R → Bool) → (blank : R) → (old new : KeptList R) → Type 0
StaysSound {R} nw blank old new = (vacant : R → Bool) → vacant blank ≡ true → Sound nw vacant old → Sound nw vacant new

-- no call changes the bound, or how many places there are
pub record SameExtent {R : Type 0} (old new : KeptList R) : Type 0 where
  pub bound : new.bound ≡ old.bound
  pub long : length (places new) ≡ length (places old)

-- ---- make ----

-- an empty list over lent places: the first ones are cleared, the rest is as it was
pub record Made {R : Type 0} (blank : R) (bound : ℕ) (lent : List R) (l : KeptList R) : Type 0 where
  pub cleared : places l ≡ replicate bound blank ++ drop bound lent
  pub none : l.count ≡ 0
  pub bounded : l.bound ≡ bound
  pub sound : (nw : R → R → Bool) (vacant : R → Bool) → vacant blank ≡ true → Sound nw vacant l

-- too few places are handed back as they were
abbrev pub Makes : {R : Type 0} → (blank : R) → (bound : ℕ) → (lent : List R) → Result (KeptList R) (MutBor (List R)) → Type 0
Makes blank bound lent (Ok l) = (bound ≤ length lent) × Made blank bound lent l
Makes blank bound lent (Err back) = (length lent < bound) × (back.now ≡ lent)

-- ---- insert ----

-- a record entered behind all that are no worse, and those that are worse moved one place on
pub record Entered {R : Type 0} (nw : R → R → Bool) (x : R) (place : ℕ) (old new : KeptList R) : Type 0 where
  pub room : has_room old ≡ true
  pub placed : place ≡ place_of nw x (standing old)
  pub stand : standing new ≡ insert (standing old) place x
  pub rest : behind new ≡ drop 1 (behind old)
  pub count : new.count ≡ old.count + 1

-- a full list refuses, and stays as it was
abbrev pub Inserts : {R : Type 0} → (no_worse : R → R → Bool) → R → (old new : KeptList R) → Option ℕ → Type 0
Inserts nw x old new None = (has_room old ≡ false) × (new ≡ old)
Inserts nw x old new (Some place) = Entered nw x place old new

-- ---- replace ----

-- a record was written over the one at a place
pub record Overwritten {R : Type 0} (place : ℕ) (x was : R) (old new : KeptList R) : Type 0 where
  pub stood : slice_get (standing old) place ≡ Some was
  pub stand : standing new ≡ slice_set (standing old) place x
  pub rest : behind new ≡ behind old
  pub count : new.count ≡ old.count

-- a place where no record stands is refused, and the list stays as it was
abbrev pub Replaces : {R : Type 0} → (place : ℕ) → R → (old new : KeptList R) → Option R → Type 0
Replaces place x old new None = (length (standing old) ≤ place) × (new ≡ old)
Replaces place x old new (Some was) = Overwritten place x was old new

-- two records rank alike against every other
abbrev pub Alike : {R : Type 0} → (no_worse : R → R → Bool) → R → R → Type 0
Alike {R} nw x y = (z : R) → (nw x z ≡ nw y z) × (nw z x ≡ nw z y)

-- ---- remove ----

-- the record at a place left, those behind it moved up, and the place that this freed was cleared
pub record Left {R : Type 0} (blank : R) (place : ℕ) (x : R) (old new : KeptList R) : Type 0 where
  pub stood : slice_get (standing old) place ≡ Some x
  pub stand : standing new ≡ remove (standing old) place
  pub rest : behind new ≡ blank ∷ behind old
  pub count : new.count + 1 ≡ length (standing old)

-- a place where no record stands is refused, and the list stays as it was
abbrev pub Removes : {R : Type 0} → (blank : R) → (place : ℕ) → (old new : KeptList R) → Option R → Type 0
Removes blank place old new None = (length (standing old) ≤ place) × (new ≡ old)
Removes blank place old new (Some x) = Left blank place x old new
