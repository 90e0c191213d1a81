-- The stage depends on the corner alone: of two blocks with the same corner it leaves the same (`low_same`). Assumes nothing.
use mathlib.Core.Path.{◌≡◌, ap}
use mathlib.Core.Bool.{Bool}
use Prim.Native.Nat.{ℕ, ◌<◌}
use native.Mathlib.Nat.{lt_of_lt_of_le}
use lib.IntN.{ℤ, ◌*ℤ◌}
use Rattle.algebra.proofs.Sum.{sum-cong}
use Rattle.meaning.specs.Plan.{range_of}
use Rattle.meaning.specs.Inverse.{middle}
use Rattle.lfnst_tables.specs.Lfnst.{lfnst}
use Rattle.lfnst.specs.LowFrequency.{input, inputs, is_wide, low_sum, low_value, standing, low_at}
use Rattle.lfnst.proofs.Fits.{column, row, from-corner, at-most-16}

module _ (c d : ℕ → ℕ → ℤ) (same : (x y : ℕ) → x < 4 → y < 4 → c x y ≡ d x y) where
  input-same : (i : ℕ) → i < 16 → input c i ≡ input d i
  unfolding input
  input-same i l = let p = from-corner i l in same (column i) (row i) p.0 p.1

  module _ (width height index set : ℕ) where
    sum_same : (j : ℕ) → low_sum width height index set c j ≡ low_sum width height index set d j
    unfolding low_sum
    sum_same j =
        sum-cong (inputs width height) _ _
        (λ i l. ap (λ (z : ℤ). z *ℤ lfnst set index (is_wide width height) i j) (input-same i (lt_of_lt_of_le l (at-most-16 width height))))

    value_same : (reach j : ℕ) → low_value width height index set reach c j ≡ low_value width height index set reach d j
    unfolding low_value
    value_same reach j = ap (middle (range_of reach)) (sum_same j)

    pub low_same : (transposed : Bool) (reach x y : ℕ) → low_at width height index set transposed reach c x y ≡ low_at width height index set transposed reach d x y
    unfolding low_at
    low_same transposed reach x y = λ t. standing (is_wide width height) transposed (λ j. value_same reach j t) x y
