-- What a caller cites of what the stage leaves: the block has it by column and row (`low-block-at`), outside of 8 by 8 it is 0
-- (`low-outside`), and every value is in its range (`low-inside`), so that columns and rows may run on it. Assumes nothing.
use mathlib.Core.Path.{◌≡◌, refl}
use mathlib.Core.Logic.{◌⊎◌, inl, inr}
use mathlib.Core.Bool.{Bool, true, false, cond, ◌&&◌, ◌||◌}
use Prim.Native.Nat.{ℕ, ◌+◌, ◌*◌, ◌≤◌, ◌<◌}
use native.Mathlib.Omega.{arith}
use borrow.Author.Tests.{le-ltb}
use lib.Dec.{ltb}
use lib.IntN.{ℤ, pos}
use lib.Signed.{◌≤ℤ◌}
use Rattle.algebra.specs.Lists.{at}
use Rattle.algebra.proofs.Clip.{clip-low, clip-high}
use Rattle.algebra.proofs.Lists.{block_at}
use Rattle.algebra.proofs.Order.{parts-le}
use Rattle.meaning.specs.Plan.{range_of}
use Rattle.meaning.specs.Inverse.{rounded}
use Rattle.lfnst.specs.LowFrequency.{is_wide, low_sum, low_value, is_written, row_by_row, standing, low_at, low_block}

unwritten-right : (wide : Bool) (x y : ℕ) → 8 ≤ x → is_written wide x y ≡ false
unfolding is_written
unwritten-right true x y h = rw (le-ltb x 8 h) refl
unwritten-right false x y h =
    let l : 4 ≤ x = omega arith in
    rw (le-ltb x 4 l) refl

unwritten-below : (wide : Bool) (x y : ℕ) → 8 ≤ y → is_written wide x y ≡ false
unfolding is_written
unwritten-below true x y h = rw (le-ltb y 8 h) (none (ltb x 8) (ltb y 4 || ltb x 4))
  where
    none : (a b : Bool) → (a && false && b) ≡ false
    none true b = refl
    none false b = refl
unwritten-below false x y h =
    let l : 4 ≤ y = omega arith in
    rw (le-ltb y 4 l) (none (ltb x 4))
  where
    none : (a : Bool) → (a && false) ≡ false
    none true = refl
    none false = refl

-- 0 is in every range, and so is what was clipped to it
module _ (reach : ℕ) where
  abbrev Inside : ℤ → Type 0
  Inside z = ((range_of reach).low ≤ℤ z) × (z ≤ℤ (range_of reach).high)

  zero-inside : Inside (pos 0)
  zero-inside = (parts-le (range_of reach).low (pos 0) (omega arith), parts-le (pos 0) (range_of reach).high (omega arith))

  ends : (range_of reach).low ≤ℤ (range_of reach).high
  ends = parts-le (range_of reach).low (range_of reach).high (omega arith)

module _ (width height index set : ℕ) (transposed : Bool) (reach : ℕ) (c : ℕ → ℕ → ℤ) where
  pub low-block-at : (x y : ℕ) → x < 8 → y < 8 → at (low_block width height index set transposed reach c) (x + y * 8) ≡ low_at width height index set transposed reach c x y
  unfolding low_block
  low-block-at x y h l = block_at 8 8 (low_at width height index set transposed reach c) x y h l

  value-inside : (j : ℕ) → Inside reach (low_value width height index set reach c j)
  unfolding low_value
  value-inside j =
      let z = rounded (low_sum width height index set c j) in
      (clip-low (range_of reach) z (ends reach), clip-high (range_of reach) z (ends reach))

  pub low-inside : (x y : ℕ) → Inside reach (low_at width height index set transposed reach c x y)
  unfolding low_at standing
  low-inside x y =
      let column = cond transposed y x in
      let row = cond transposed x y in
      let wide = is_wide width height in
      by (is_written wide column row) (row_by_row wide column row)
    where
      by : (b : Bool) (j : ℕ) → Inside reach (cond b (low_value width height index set reach c j) (pos 0))
      by true j = value-inside j
      by false j = zero-inside reach

pub low-outside : (width height index set : ℕ) (transposed : Bool) (reach : ℕ) (c : ℕ → ℕ → ℤ) (x y : ℕ) → (8 ≤ x) ⊎ (8 ≤ y) → low_at width height index set transposed reach c x y ≡ pos 0
unfolding low_at standing
low-outside width height index set true reach c x y (inl h) = rw (unwritten-below (is_wide width height) y x h) refl
low-outside width height index set true reach c x y (inr h) = rw (unwritten-right (is_wide width height) y x h) refl
low-outside width height index set false reach c x y (inl h) = rw (unwritten-right (is_wide width height) x y h) refl
low-outside width height index set false reach c x y (inr h) = rw (unwritten-below (is_wide width height) x y h) refl
