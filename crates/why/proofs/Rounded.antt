-- A column sum of at most 2^31, rounded, is at most 2^24. Assumes nothing.
use Prim.Native.Nat.{◌≤◌}
use native.Mathlib.Omega.{arith}
use lib.IntN.{ℤ, nat_abs}
use Rattle.algebra.proofs.Shift.{shift_in}
use Rattle.meaning.specs.Inverse.{rounded}

pub rounded-in : (e : ℤ) → nat_abs e ≤ 2147483648 → nat_abs (rounded e) ≤ 16777216
rounded-in e h = shift_in e 6 16777216 (omega arith)
