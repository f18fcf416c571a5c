-- Numbers read digit by digit.
use Rattle.std.proofs.Common.{ℕ, ◌^◌, ◌≤◌, arith}
use native.Mathlib.Nat.{pow-le-pow_right}

-- up to 8 digits spell numbers below that
pub short : (i : ℕ) → i ≤ 8 → 10 ^ i ≤ 100000000
short i m = pow-le-pow_right {n = 10} (omega arith) {i = i} {j = 8} m
