-- The interest that a standing record shows.
use Rattle.std.specs.Prelude.{ℕ}

-- a holder, the price it stands at, and the contracts it has left
pub record Interest : Type 0 where
  pub holder : ℕ
  pub price : ℕ
  pub left : ℕ

-- the same with other contracts left
abbrev pub with_left : ℕ → Interest → Interest
with_left n x = record { holder = x.holder; price = x.price; left = n }
