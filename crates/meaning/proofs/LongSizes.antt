-- Document 02, Wish 14: "Inputs and middle values become 32-bit, sums 64-bit". PlanSizes at the plan of the switch: coefficients of the
-- range are at most 2^20 in size, so every partial sum of either stage, and what each rounding is put to, is at most 2^32 and
-- some, middle values at most 2^20, and residuals at most 2^23. Assumes nothing.
--   long-column-part-fits, long-row-part-fits:         the first k terms of either sum, for every k: 64 bits
--   long-column-rounding-fits, long-row-rounding-fits: e + 64, and r + 2^(s-1): 64 bits
--   long-middle-fits, long-residual-fits:              32 bits
use mathlib.Core.Path.{◌≡◌, refl, sym, ap, ◌∙◌}
use mathlib.Core.Bool.{Bool, true}
use mathlib.Core.List.{List}
use Prim.Native.Nat.{ℕ, ◌+◌, ◌*◌, ◌-◌, ◌^◌, ◌≤◌, ◌<◌}
use native.Mathlib.Nat.{le_trans, mul-le-mul, mul_assoc, mul_right_comm}
use native.Mathlib.Omega.{arith}
use lib.IntN.{ℤ, pos, nat_abs, ◌+ℤ◌}
use lib.Pow.{pow_mono, pow-add}
use mir.Syntax.{w32, w64}
use mir.Val.{SFits}
use Rattle.algebra.specs.Lists.{at}
use Rattle.algebra.proofs.Order.{within, fits_in}
use Rattle.algebra.proofs.Shift.{rounding-in}
use Rattle.meaning.specs.declared.Shape.{Shape}
use Rattle.meaning.specs.Line.{inverse_sum}
use Rattle.meaning.specs.Shape.{is_long_depth}
use Rattle.meaning.specs.Plan.{Plan, reach, long_plan}
use Rattle.meaning.specs.Taken.{TakenLong, Sized, NoneAbove}
use Rattle.meaning.specs.Inverse.{column_sum, middle_at, row_sum, residual}
use Rattle.meaning.proofs.Cases.{line-in}
use Rattle.meaning.proofs.PlanSizes.{down-sizes, along-sizes, column-part, column_sum-size, middle-size, row-part, row_sum-size, residual-size}
use Rattle.meaning.proofs.Stages.{sized-by}
use Rattle.meaning.proofs.LongRules.{reach-in, long-depth, last-in, around}

-- the plan of a call that is taken
pub long-sized : (extended : Bool) (sh : Shape) → TakenLong extended sh → Sized (long_plan extended sh)
long-sized extended sh = sized-by (long_plan extended sh).range (long_plan extended sh).last sh

module _ (extended : Bool) (sh : Shape) (t : Sized (long_plan extended sh)) (deep : is_long_depth extended sh.depth ≡ true) where
  abbrev p : Plan
  p = long_plan extended sh

  abbrev R : ℕ
  R = reach extended sh.depth

  wide : sh.width ≤ 64
  wide = line-in sh.horizontal sh.width t.along

  high : sh.height ≤ 64
  high = line-in sh.vertical sh.height t.down

  -- 2^R is at most 2^20, and 64 n of it at most 2^32
  reach-small : 2 ^ R ≤ 1048576
  reach-small = pow_mono {i = R} {j = 20} (reach-in extended sh.depth).1

  long : (n : ℕ) {z : ℕ} → n ≤ 64 → z ≤ 64 * n * 2 ^ R → z ≤ 4294967296
  long n h l =
      let a : 64 * n ≤ 4096 = omega arith in
      le_trans l (mul-le-mul a reach-small)

  rounding-fits : (z : ℤ) (s : ℕ) → nat_abs z ≤ 4294967296 → s ≤ 12 → SFits w64 (z +ℤ pos (2 ^ (s - 1)))
  rounding-fits z s h l =
      let q : 2 ^ (s - 1) ≤ 2048 = pow_mono {i = s - 1} {j = 11} (omega arith) in
      fits_in {B = 4294969344} tt (within (z +ℤ pos (2 ^ (s - 1))) (omega (arith, rounding-in s z 4294967296 h)))

  -- ---- columns, of coefficients of the range
  module _ (c : List ℤ) (small : NoneAbove (2 ^ R) c) (x y : ℕ) (h : y < sh.height) where
    pub long-column-part-fits : (k : ℕ) → k ≤ sh.rows → SFits w64 (inverse_sum sh.vertical sh.height k (λ i. at c (x + i * sh.width)) y)
    long-column-part-fits k l =
        fits_in tt (within (inverse_sum sh.vertical sh.height k (λ i. at c (x + i * sh.width)) y)
        (long sh.height high (column-part p c small x y (down-sizes t y h) k l)))

    pub long-column-rounding-fits : SFits w64 (column_sum p c x y +ℤ pos 64)
    long-column-rounding-fits =
        rounding-fits (column_sum p c x y) 7 (long sh.height high (column_sum-size p c small x y (down-sizes t y h))) (omega arith)

  -- ---- rows, whatever the coefficients are
  module _ (c : List ℤ) (x y : ℕ) where
    pub long-middle-in : nat_abs (middle_at p c x y) ≤ 2 ^ R
    long-middle-in = middle-size p c (around R) x y

    pub long-middle-fits : SFits w32 (middle_at p c x y)
    long-middle-fits = fits_in tt (within (middle_at p c x y) (le_trans long-middle-in reach-small))

    module _ (h : x < sh.width) where
      pub long-row-part-fits : (k : ℕ) → k ≤ sh.columns → SFits w64 (inverse_sum sh.horizontal sh.width k (λ i. middle_at p c i y) x)
      long-row-part-fits k l =
          fits_in tt (within (inverse_sum sh.horizontal sh.width k (λ i. middle_at p c i y) x)
          (long sh.width wide (row-part p c (around R) x y (along-sizes t x h) k l)))

      pub long-row-rounding-fits : SFits w64 (row_sum p c x y +ℤ pos (2 ^ (p.last - 1)))
      long-row-rounding-fits =
          rounding-fits (row_sum p c x y) p.last (long sh.width wide (row_sum-size p c (around R) x y (along-sizes t x h))) (last-in extended sh.depth deep).1

      -- 2^(6+R) w over 2^(5+R-d)
      pub long-residual-in : nat_abs (residual p c x y) ≤ 2 ^ (1 + sh.depth) * sh.width
      long-residual-in =
          residual-size p c (around R) x y (along-sizes t x h) (2 ^ (1 + sh.depth) * sh.width) (omega (arith, (last-in extended sh.depth deep).0)) (le_of same)
        where
          le_of : {a b : ℕ} → a ≡ b → a ≤ b
          le_of e = omega arith

          powers : 64 * 2 ^ R ≡ 2 ^ p.last * 2 ^ (1 + sh.depth)
          powers =
              let e : 6 + R ≡ p.last + (1 + sh.depth) = omega (arith, long-depth extended sh.depth deep, reach-in extended sh.depth) in
              sym (pow-add 2 6 R) ∙ ap (λ (n : ℕ). 2 ^ n) e ∙ pow-add 2 p.last (1 + sh.depth)

          same : 64 * sh.width * 2 ^ R ≡ 2 ^ p.last * (2 ^ (1 + sh.depth) * sh.width)
          same = mul_right_comm 64 sh.width (2 ^ R) ∙ ap (λ (n : ℕ). n * sh.width) powers ∙ mul_assoc (2 ^ p.last) (2 ^ (1 + sh.depth)) sh.width

      pub long-residual-fits : SFits w32 (residual p c x y)
      long-residual-fits =
          let q : 2 ^ (1 + sh.depth) ≤ 131072 = pow_mono {i = 1 + sh.depth} {j = 17} (omega (arith, long-depth extended sh.depth deep)) in
          fits_in tt (within (residual p c x y) (le_trans long-residual-in (mul-le-mul q wide)))
