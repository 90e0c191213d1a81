-- How large the numbers of an inverse block can be, over any plan: of coefficients of size at most B, where the sizes of the
-- weights of a sum add up to at most W and no number of the range is above M. Assumes nothing.
--   column-part, row-part: every partial sum of either stage: its first k terms, for every k
--   column_sum-size, rounded-size, middle-size, row_sum-size, residual-size: the sums and the values that come of them
-- `Sized` gives W (`down-sizes`, `along-sizes`), `Around` is what is asked of the range.
use mathlib.Core.List.{List}
use Prim.Native.Nat.{ℕ, ◌+◌, ◌*◌, ◌^◌, ◌≤◌, ◌<◌}
use native.Mathlib.Nat.{le_refl, le_trans}
use native.Mathlib.Omega.{arith}
use lib.Dec.{ltb}
use lib.IntN.{ℤ, pos, nat_abs}
use lib.Signed.{◌≤ℤ◌}
use Rattle.algebra.specs.Clip.{Range}
use Rattle.algebra.specs.Lists.{at}
use Rattle.algebra.proofs.Order.{abs-parts, parts-le, parts-abs, le_parts}
use Rattle.algebra.proofs.Clip.{clip-low, clip-high}
use Rattle.algebra.proofs.Shift.{shift_in, nearest_in}
use Rattle.meaning.specs.Line.{inverse_sum}
use Rattle.meaning.specs.Plan.{Plan}
use Rattle.meaning.specs.Taken.{Sized, NoneAbove}
use Rattle.meaning.specs.Inverse.{column_sum, rounded, middle_at, row_sum, residual}
use Rattle.meaning.specs.Exact.{weight_sizes}
use Rattle.meaning.proofs.Cases.{pick}
use Rattle.meaning.proofs.Sizes.{column_size, column_sizes_kept, inverse-part}

-- ---- the weights of a plan by lines that there are: W is 64 h down a column, 64 w along a row
module _ {p : Plan} (s : Sized p) where
  pub down-sizes : (y : ℕ) → y < p.height → column_size p.vertical p.height p.rows y ≤ 64 * p.height
  down-sizes y h = column_sizes_kept p.vertical p.height s.down p.rows y s.rows h

  pub along-sizes : (x : ℕ) → x < p.width → weight_sizes p x ≤ 64 * p.width
  unfolding weight_sizes
  along-sizes x h = column_sizes_kept p.horizontal p.width s.along p.columns x s.columns h

-- ---- columns
module _ (p : Plan) (c : List ℤ) {B W : ℕ} (small : NoneAbove B c) (x y : ℕ) (weights : column_size p.vertical p.height p.rows y ≤ W) where
  pub column-part : (k : ℕ) → k ≤ p.rows → nat_abs (inverse_sum p.vertical p.height k (λ i. at c (x + i * p.width)) y) ≤ W * B
  column-part k l = inverse-part p.vertical p.height (λ i. at c (x + i * p.width)) W B p.rows y weights (λ i _. small (x + i * p.width)) k l

  pub column_sum-size : nat_abs (column_sum p c x y) ≤ W * B
  unfolding column_sum
  column_sum-size = column-part p.rows (le_refl p.rows)

  -- before the clip
  pub rounded-size : (R : ℕ) → W * B ≤ 128 * R → nat_abs (rounded (column_sum p c x y)) ≤ R
  rounded-size R h = shift_in (column_sum p c x y) 6 R (le_trans column_sum-size h)

-- ---- between the stages: a range that holds 0, and no number above M in size
pub record Around (M : ℕ) (r : Range) : Type 0 where
  pub low : r.low ≤ℤ pos 0
  pub high : pos 0 ≤ℤ r.high
  pub down : nat_abs r.low ≤ M
  pub up : nat_abs r.high ≤ M

module _ (p : Plan) (c : List ℤ) {M : ℕ} (around : Around M p.range) where
  -- both ends are in it
  some : p.range.low ≤ℤ p.range.high
  some = parts-le p.range.low p.range.high (omega (arith, le_parts around.low, le_parts around.high))

  -- by the clip, whatever the coefficients are; 0 in a column that is not kept
  pub middle-within : (x y : ℕ) → (p.range.low ≤ℤ middle_at p c x y) × (middle_at p c x y ≤ℤ p.range.high)
  unfolding middle_at
  middle-within x y =
      pick (λ (z : ℤ). (p.range.low ≤ℤ z) × (z ≤ℤ p.range.high)) (ltb x p.columns)
      (clip-low p.range (rounded (column_sum p c x y)) some, clip-high p.range (rounded (column_sum p c x y)) some) (around.low, around.high)

  pub middle-size : (x y : ℕ) → nat_abs (middle_at p c x y) ≤ M
  middle-size x y =
      let m = middle_at p c x y in
      let w = middle-within x y in
      let l = p.range.low in
      let h = p.range.high in
      parts-abs m M (omega (arith, le_parts w.1, abs-parts h, around.up)) (omega (arith, le_parts w.0, abs-parts l, around.down))

  -- ---- rows
  module _ {W : ℕ} (x y : ℕ) (weights : weight_sizes p x ≤ W) where
    pub row-part : (k : ℕ) → k ≤ p.columns → nat_abs (inverse_sum p.horizontal p.width k (λ i. middle_at p c i y) x) ≤ W * M
    unfolding weight_sizes
    row-part k l = inverse-part p.horizontal p.width (λ i. middle_at p c i y) W M p.columns x weights (λ i _. middle-size i y) k l

    pub row_sum-size : nat_abs (row_sum p c x y) ≤ W * M
    unfolding row_sum
    row_sum-size = row-part p.columns (le_refl p.columns)

    pub residual-size : (R : ℕ) → 1 ≤ p.last → W * M ≤ 2 ^ p.last * R → nat_abs (residual p c x y) ≤ R
    unfolding residual
    residual-size R s h = nearest_in p.last (row_sum p c x y) R (omega arith) (le_trans row_sum-size h)
