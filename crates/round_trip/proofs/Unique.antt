-- Two answers that the contract of `stray` allows are equal. Assumes nothing.
use mathlib.Core.Path.{◌≡◌}
use Prim.Native.Nat.{ℕ}
use Rattle.algebra.proofs.Unique.{one}
use Rattle.round_trip.specs.RoundTrip.{stray_or_zero}

pub stray-one : (kind n j : ℕ) {r s : ℕ} → r ≡ stray_or_zero kind n j → s ≡ stray_or_zero kind n j → r ≡ s
stray-one kind n j = one
