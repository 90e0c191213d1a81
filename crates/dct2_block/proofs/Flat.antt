-- A block with one coefficient: both stages weigh it by 64, and no clip alters it. Assumes nothing.
use mathlib.Core.Path.{◌≡◌, ap, ◌∙◌}
use Prim.Native.Nat.{ℕ, ◌+◌, ◌*◌, ◌/◌, ◌%◌, ◌≤◌}
use native.Mathlib.Omega.{arith}
use native.Mathlib.Nat.{zero-mul}
use lib.IntN.{ℤ, pos, negsuc, nat_abs, ◌*ℤ◌}
use Rattle.algebra.specs.Clip.{clip}
use Rattle.algebra.proofs.Clip.{clip-same}
use Rattle.algebra.proofs.Order.{abs-mul, abs-parts, parts-le}
use Rattle.algebra.proofs.Shift.{shift_in}
use Rattle.meaning.specs.Weights.{weight, dct2, turn, cosines}
use Rattle.meaning.specs.Plan.{short_range}
use Rattle.meaning.specs.Inverse.{rounded}

-- row 0 is 64 at every place
pub first-weight : (n j : ℕ) → weight 0 n 0 j ≡ pos 64
unfolding weight dct2 turn cosines
first-weight n j = ap (λ (m : ℕ). turn (m % 256)) (ap (λ (k : ℕ). k * (64 / n)) (zero-mul (2 * j + 1)) ∙ zero-mul (64 / n))

pub weighed-in : (v : ℤ) → nat_abs v ≤ 32768 → nat_abs (pos 64 *ℤ v) ≤ 2097152
weighed-in v h = omega (arith, abs-mul (pos 64) v)

pub middle-in : (v : ℤ) → nat_abs v ≤ 32768 → nat_abs (rounded (pos 64 *ℤ v)) ≤ 16384
middle-in v h = shift_in (pos 64 *ℤ v) 6 16384 (omega (arith, weighed-in v h))

-- a number of at most 15 bits is in the range
pub short-same : (z : ℤ) → nat_abs z ≤ 16384 → clip short_range z ≡ z
unfolding short_range
short-same z h = clip-same short_range z (parts-le (negsuc 32767) z (omega (arith, abs-parts z))) (parts-le z (pos 32767) (omega (arith, abs-parts z)))
