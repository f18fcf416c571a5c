-- A row of records after those without contracts have left it.
use Rattle.std.specs.Prelude.{◌≡◌, ℕ, ◌-◌, ◌≤◌, Bool, List, length, take, drop, replicate, filter, nat_lt}
use Rattle.kept.specs.Standing.{Interest}

-- the record has contracts left
abbrev pub has_left : {X : Type 0} → (shown : X → Interest) → X → Bool
has_left shown x = nat_lt 0 (shown x).left

-- the first n places hold the records that have contracts left, in their order, and the others are blank
pub record Compacts {X : Type 0} (shown : X → Interest) (blank : X) (xs : List X) (n : ℕ) (xs' : List X) : Type 0 where
  pub few : n ≤ length xs
  pub long : length xs' ≡ length xs
  pub stand : take n xs' ≡ filter (has_left shown) xs
  pub freed : drop n xs' ≡ replicate (length xs - n) blank
