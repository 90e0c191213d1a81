-- Where the sizes of all that is read add up to at most 32767, every range of at least 16 bits gives the same block, and none has a rail.
-- Assumes nothing.
use native.Mathlib.Omega.{arith}
use mathlib.Core.Path.{◌≡◌, refl, sym, ap, ◌∙◌}
use mathlib.Core.List.{List}
use Prim.Native.Nat.{ℕ, zero, suc, ◌+◌, ◌*◌, ◌-◌, ◌^◌, ◌≤◌, ◌<◌}
use native.Mathlib.Nat.{le_trans, mul-le-mul, mul-le-mul_right}
use borrow.Author.Tests.{lt-ltb}
use lib.IntN.{ℤ, pos, negsuc, nat_abs, ◌*ℤ◌}
use lib.ListN.{take, drop}
use lib.Pow.{pow_mono}
use lib.Seq.{get_or-take, get_or-drop}
use Rattle.algebra.specs.Sum.{sumℕ}
use Rattle.algebra.specs.Clip.{clip}
use Rattle.algebra.specs.Shift.{nearest}
use Rattle.algebra.specs.Lists.{at}
use Rattle.algebra.proofs.Order.{abs-mul, abs-parts, parts-le}
use Rattle.algebra.proofs.Clip.{clip-same}
use Rattle.algebra.proofs.Shift.{nearest_in}
use Rattle.algebra.proofs.Sum.{abs-sum, sumℕ-mono, sumℕ-scale, sumℕ-swap, sum-cong}
use Rattle.algebra.proofs.Lists.{block_cong}
use Rattle.algebra.proofs.Table.{last}
use Rattle.meaning.specs.Weights.{weight}
use Rattle.meaning.specs.Line.{inverse_sum}
use Rattle.meaning.specs.Plan.{Plan, range_of}
use Rattle.meaning.specs.Inverse.{column_sum, rounded, middle_at, rails, row_sum, residual, inverse_block}
use Rattle.meaning.proofs.Sizes.{weight_most}
use Rattle.meaning.proofs.NoRails.{rails-no}
use Rattle.transform_stages.specs.Work.{worked}
use Rattle.transform_calm.specs.Calm.{read_sizes}

-- none yet
pub sums_none : (f : ℕ → ℕ) → sumℕ 0 f ≡ 0
unfolding sumℕ
sums_none f = refl

-- a lent part of k numbers from a on
pub lent_at : (c : List ℤ) (a k i : ℕ) → i < k → at (take (a + k - a) (drop a c)) i ≡ at c (a + i)
lent_at c a k i h = get_or-take (a + k - a) (drop a c) i (pos 0) (omega arith) ∙ get_or-drop a c i (pos 0)

-- one of a sum
pub in_sum : (n : ℕ) (f : ℕ → ℕ) (i : ℕ) → i < n → f i ≤ sumℕ n f
unfolding sumℕ
in_sum zero f i h = absurd (omega arith)
in_sum (suc n) f i h = last (λ (i : ℕ). f i ≤ sumℕ n f + f n) n i h (omega arith) (λ l. omega (arith, in_sum n f i l))

-- a number of 16 bits is in every larger range
kept : (R : ℕ) (z : ℤ) → 15 ≤ R → nat_abs z ≤ 32767 → clip (range_of R) z ≡ z
kept R z far h =
    let p : 32768 ≤ 2 ^ R = pow_mono {i = 15} {j = R} far in
    clip-same (range_of R) z (parts-le (negsuc (2 ^ R - 1)) z (omega (arith, abs-parts z, p, h))) (parts-le z (pos (2 ^ R - 1)) (omega (arith, abs-parts z, p, h)))

module _ (w h horizontal vertical columns rows last : ℕ) (c : List ℤ) (calm : read_sizes w columns rows c ≤ 32767) where
  abbrev of : ℕ → Plan
  of R = worked w h horizontal vertical columns rows R last

  -- each number, and each column
  column-size : (x : ℕ) → x < columns → sumℕ rows (λ y. nat_abs (at c (x + y * w))) ≤ 32767
  column-size x l =
      omega (arith, in_sum columns (λ x. sumℕ rows (λ y. nat_abs (at c (x + y * w)))) x l, sumℕ-swap rows columns (λ y x. nat_abs (at c (x + y * w))), calm)

  pub number_size : (x y : ℕ) → x < columns → y < rows → nat_abs (at c (x + y * w)) ≤ 32767
  number_size x y l k = le_trans (in_sum rows (λ y. nat_abs (at c (x + y * w))) y k) (column-size x l)

  sum-size : (R x y : ℕ) → x < columns → nat_abs (column_sum (of R) c x y) ≤ 32767 * 91
  unfolding column_sum inverse_sum
  sum-size R x y l =
      let f : ℕ → ℤ = λ i. weight vertical h i y *ℤ at c (x + i * w) in
      le_trans (abs-sum rows f)
      (le_trans (sumℕ-mono rows (λ i. nat_abs (f i)) (λ i. nat_abs (at c (x + i * w)) * 91)
      (λ i _. omega (arith, abs-mul (weight vertical h i y) (at c (x + i * w)), mul-le-mul (weight_most vertical h i y) (le_of (nat_abs (at c (x + i * w)))))))
      (omega (arith, sumℕ-scale rows (λ i. nat_abs (at c (x + i * w))) 91, mul-le-mul_right 91 (column-size x l))))
    where
      le_of : (b : ℕ) → b ≤ b
      le_of b = omega arith

  rounded-size : (R x y : ℕ) → x < columns → nat_abs (rounded (column_sum (of R) c x y)) ≤ 32767
  rounded-size R x y l = nearest_in 7 (column_sum (of R) c x y) 32767 (omega arith) (omega (arith, sum-size R x y l))

  middle-is : (R x y : ℕ) → 15 ≤ R → x < columns → middle_at (of R) c x y ≡ rounded (column_sum (of R) c x y)
  unfolding middle_at
  middle-is R x y far l = rw (lt-ltb x columns l) (kept R (rounded (column_sum (of R) c x y)) far (rounded-size R x y l))

  pub calm-rails : (R : ℕ) → 15 ≤ R → rails (of R) c ≡ 0
  calm-rails R far = rails-no (of R) c (λ x y l _. middle-is R x y far l)

  column-same : (R x y : ℕ) → column_sum (of R) c x y ≡ column_sum (of 15) c x y
  unfolding column_sum
  column-same R x y = refl

  residual-same : (R x y : ℕ) → 15 ≤ R → residual (of R) c x y ≡ residual (of 15) c x y
  unfolding residual row_sum inverse_sum
  residual-same R x y far =
      ap (nearest last) (sum-cong columns (λ i. weight horizontal w i x *ℤ middle_at (of R) c i y) (λ i. weight horizontal w i x *ℤ middle_at (of 15) c i y)
      (λ i l. ap (λ (z : ℤ). weight horizontal w i x *ℤ z) (middle-is R i y far l ∙ ap rounded (column-same R i y) ∙ sym (middle-is 15 i y (omega arith) l))))

  pub calm-block : (R : ℕ) → 15 ≤ R → inverse_block (of R) c ≡ inverse_block (of 15) c
  unfolding inverse_block
  calm-block R far = block_cong w h (residual (of R) c) (residual (of 15) c) (λ x y _ _. residual-same R x y far)
