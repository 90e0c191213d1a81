-- What holds of the weights of an odd half, whatever table stores them. Assumes nothing.
use mathlib.Core.Path.{◌≡◌}
use Prim.Native.Nat.{ℕ, ◌+◌, ◌*◌, ◌/◌, ◌%◌, ◌≤◌}
use lib.IntN.{nat_abs}
use Rattle.meaning.proofs.Sizes.{weight_size}
use Rattle.halves.specs.Halves.{odd}

-- they are weights
pub odd-size : (n : ℕ) → 64 / n % 2 ≡ 0 → (i j : ℕ) → nat_abs (odd n i j) ≤ 90
odd-size n even i j = weight_size 0 n even (2 * i + 1) j
