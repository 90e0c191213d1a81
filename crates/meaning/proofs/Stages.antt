-- Sizes in both stages of a block, over every shape that is taken: no sum leaves 32 bits, no value between the stages and no
-- coefficient leaves 16. "No sum" is every partial sum, the first k terms for every k, and what each rounding is put to.
-- Inverse, of 16-bit coefficients (PlanSizes at the plan of the shape): `column-part-fits`, `column-rounding-fits` (e + 64),
-- `middle-fits`, `row-part-fits`, `row-rounding-fits` (r + 2^(19-d)), `residual-fits`. Forward, of residuals of size at most
-- 2^d-1: `row_stage-part-fits`, `row_stage-rounding-fits` (y + 2^(p-1)), `row_value-fits`, `column_stage-part-fits`,
-- `column_stage-rounding-fits` (y + 2^(q-1)), `coefficient-fits`: "Nothing is clipped, as nothing leaves 16 bits".
use mathlib.Core.Path.{◌≡◌, refl, sym, ap, ◌∙◌, subst}
use mathlib.Core.Bool.{Bool, true, ◌&&◌}
use mathlib.Core.List.{List}
use Prim.Native.Nat.{ℕ, ◌+◌, ◌*◌, ◌-◌, ◌^◌, ◌≤◌, ◌<◌, zero-le}
use native.Mathlib.Nat.{le_trans, mul_assoc, mul-sub}
use native.Mathlib.Omega.{arith}
use lib.Dec.{eqb, ltb}
use lib.Pow.{pow_pos, pow_mono, pow-add}
use lib.IntN.{ℤ, pos, nat_abs, ◌+ℤ◌, ◌*ℤ◌}
use lib.Signed.{le_z_yes}
use mir.Syntax.{w16, w32}
use mir.Val.{SFits}
use Rattle.algebra.specs.Sum.{sum}
use Rattle.algebra.specs.Clip.{Range}
use Rattle.algebra.specs.Lists.{at}
use Rattle.algebra.proofs.Order.{within, fits_in, parts-fit, le_parts}
use Rattle.algebra.proofs.Shift.{rounding-in, nearest_in}
use Rattle.meaning.specs.declared.Shape.{Shape}
use Rattle.meaning.specs.Weights.{weight}
use Rattle.meaning.specs.Line.{forward_sum, inverse_sum}
use Rattle.meaning.specs.Shape.{is_size}
use Rattle.meaning.specs.Plan.{short_range, plan_by, plan_of}
use Rattle.meaning.specs.Taken.{TakenBy, Taken, Sized, NoneAbove}
use Rattle.meaning.specs.Inverse.{column_sum, middle_at, row_sum, residual}
use Rattle.meaning.specs.Forward.{log2, row_shift, column_shift, row_stage, row_value, column_stage, column_value, coefficient, most_residual}
use Rattle.meaning.proofs.Cases.{size-cases, size_in, depth-cases, has-line, pick}
use Rattle.meaning.proofs.KeptPart.{columns-kept, rows-kept}
use Rattle.meaning.proofs.Sizes.{short, forward_sum-in, forward_sum-short, forward-part-fits}
use Rattle.meaning.proofs.PlanSizes.{Around, down-sizes, along-sizes, column-part, column_sum-size, middle-within, row-part, row_sum-size, residual-size}

-- ---- the inverse
-- by any range and any last shift
pub sized-by : {deep : Bool} (range : Range) (last : ℕ) (sh : Shape) → TakenBy (is_size sh.width) (is_size sh.height) deep sh → Sized (plan_by range last sh)
sized-by range last sh t =
    record { along = has-line sh.horizontal sh.width t.horizontal t.width; down = has-line sh.vertical sh.height t.vertical t.height; columns = (columns-kept sh t).within; rows = (rows-kept sh t).within }

pub taken-sized : (sh : Shape) → Taken sh → Sized (plan_of sh)
taken-sized sh = sized-by short_range (plan_of sh).last sh

-- 16 bits
pub short-around : Around 32768 short_range
unfolding short_range
short-around = record { low = le_z_yes tt; high = le_z_yes tt; down = omega arith; up = omega arith }

module _ (sh : Shape) (c : List ℤ) (x y : ℕ) where
  pub middle-fits : SFits w16 (middle_at (plan_of sh) c x y)
  unfolding short_range
  middle-fits =
      let w = middle-within (plan_of sh) c short-around x y in
      parts-fit w16 (middle_at (plan_of sh) c x y) (omega (arith, le_parts w.0, le_parts w.1)) (omega (arith, le_parts w.0, le_parts w.1))

-- a rounding adds at most 2^11 to a sum of at most 2^26
rounding-fits : (z : ℤ) (s : ℕ) → nat_abs z ≤ 67108864 → s ≤ 12 → SFits w32 (z +ℤ pos (2 ^ (s - 1)))
rounding-fits z s h l =
    let p : 2 ^ (s - 1) ≤ 2048 = pow_mono {i = s - 1} {j = 11} (omega arith) in
    fits_in {B = 67110912} tt (within (z +ℤ pos (2 ^ (s - 1))) (omega (arith, rounding-in s z 67108864 h)))

module _ (sh : Shape) (t : Taken sh) (c : List ℤ) where
  -- ---- columns, of 16-bit coefficients
  module _ (small : NoneAbove 32768 c) (x y : ℕ) (h : y < sh.height) where
    pub column_sum-in : nat_abs (column_sum (plan_of sh) c x y) ≤ 67108864
    column_sum-in = short sh.height t.height (column_sum-size (plan_of sh) c small x y (down-sizes (taken-sized sh t) y h))

    -- its first k terms
    pub column-part-fits : (k : ℕ) → k ≤ sh.rows → SFits w32 (inverse_sum sh.vertical sh.height k (λ i. at c (x + i * sh.width)) y)
    column-part-fits k l =
        fits_in tt (within (inverse_sum sh.vertical sh.height k (λ i. at c (x + i * sh.width)) y)
        (short sh.height t.height (column-part (plan_of sh) c small x y (down-sizes (taken-sized sh t) y h) k l)))

    pub column_sum-fits : SFits w32 (column_sum (plan_of sh) c x y)
    column_sum-fits = fits_in tt (within (column_sum (plan_of sh) c x y) column_sum-in)

    -- "e+64"
    pub column-rounding-fits : SFits w32 (column_sum (plan_of sh) c x y +ℤ pos 64)
    column-rounding-fits = rounding-fits (column_sum (plan_of sh) c x y) 7 column_sum-in (omega arith)

  -- ---- rows, whatever the coefficients are
  last-in : (8 ≤ 20 - sh.depth) × (20 - sh.depth ≤ 12)
  last-in = let d = depth-cases sh.depth t.depth in (omega arith, omega arith)

  module _ (x y : ℕ) (h : x < sh.width) where
    pub row_sum-in : nat_abs (row_sum (plan_of sh) c x y) ≤ 67108864
    row_sum-in = short sh.width t.width (row_sum-size (plan_of sh) c short-around x y (along-sizes (taken-sized sh t) x h))

    -- its first k terms
    pub row-part-fits : (k : ℕ) → k ≤ sh.columns → SFits w32 (inverse_sum sh.horizontal sh.width k (λ i. middle_at (plan_of sh) c i y) x)
    row-part-fits k l =
        fits_in tt (within (inverse_sum sh.horizontal sh.width k (λ i. middle_at (plan_of sh) c i y) x)
        (short sh.width t.width (row-part (plan_of sh) c short-around x y (along-sizes (taken-sized sh t) x h) k l)))

    pub row_sum-fits : SFits w32 (row_sum (plan_of sh) c x y)
    row_sum-fits = fits_in tt (within (row_sum (plan_of sh) c x y) row_sum-in)

    -- "r + 2^(19-d)"
    pub row-rounding-fits : SFits w32 (row_sum (plan_of sh) c x y +ℤ pos (2 ^ (19 - sh.depth)))
    row-rounding-fits =
        let e : 20 - sh.depth - 1 ≡ 19 - sh.depth = omega arith in
        rw e at (rounding-fits (row_sum (plan_of sh) c x y) (20 - sh.depth) row_sum-in last-in.1)

    -- 2^26 over 2^8
    pub residual-in : nat_abs (residual (plan_of sh) c x y) ≤ 262144
    residual-in =
        let p : 256 ≤ 2 ^ (20 - sh.depth) = pow_mono {i = 8} last-in.0 in
        residual-size (plan_of sh) c short-around x y (along-sizes (taken-sized sh t) x h) 262144 (omega (arith, last-in.0)) (omega (arith, size_in sh.width t.width))

    pub residual-fits : SFits w32 (residual (plan_of sh) c x y)
    residual-fits = fits_in tt (within (residual (plan_of sh) c x y) residual-in)

-- ---- the forward
-- 64 n is a power of two, and the shifts take it off again
size-power : (n : ℕ) → is_size n ≡ true → 64 * n ≡ 2 ^ (log2 n + 6)
size-power = size-cases (λ n. 64 * n ≡ 2 ^ (log2 n + 6)) refl refl refl refl

pub log-in : (n : ℕ) → (2 ≤ log2 n) × (log2 n ≤ 5)
log-in n =
    let In : ℕ → Type 0 = λ k. (2 ≤ k) × (k ≤ 5) in
    pick In (eqb n 4) (omega arith, omega arith) (pick In (eqb n 8) (omega arith, omega arith) (pick In (eqb n 16) (omega arith, omega arith) (omega arith, omega arith)))

-- what the row stage makes of the largest residual: the largest value after either stage
abbrev pub most_value : Shape → ℕ
most_value sh = 2 ^ (15 - sh.depth) * most_residual sh

module _ (sh : Shape) (t : Taken sh) where
  row-power : 64 * sh.width ≡ 2 ^ row_shift sh * 2 ^ (15 - sh.depth)
  row-power =
      let d = depth-cases sh.depth t.depth in
      let e : log2 sh.width + 6 ≡ row_shift sh + (15 - sh.depth) = omega (arith, log-in sh.width) in
      size-power sh.width t.width ∙ ap (λ n. 2 ^ n) e ∙ pow-add 2 (row_shift sh) (15 - sh.depth)

  residual-short : most_residual sh ≤ 32768
  residual-short =
      let d = depth-cases sh.depth t.depth in
      let p : 2 ^ sh.depth ≤ 4096 = pow_mono {j = 12} d.1 in
      omega arith

  pub value-short : most_value sh ≤ 32767
  value-short =
      let d = depth-cases sh.depth t.depth in
      let e : 15 - sh.depth + sh.depth ≡ 15 = omega arith in
      let p : 2 ^ (15 - sh.depth) * 2 ^ sh.depth ≡ 32768 = sym (pow-add 2 (15 - sh.depth) sh.depth) ∙ ap (λ n. 2 ^ n) e in
      omega (arith, mul-sub (2 ^ (15 - sh.depth)) (2 ^ sh.depth) 1, pow_pos (15 - sh.depth))

  module _ (r : List ℤ) (small : NoneAbove (most_residual sh) r) where
    pub row_stage-in : (x y : ℕ) → x < sh.width → nat_abs (row_stage sh r x y) ≤ 67108864
    row_stage-in x y h =
        forward_sum-short sh.horizontal sh.width t.horizontal t.width (λ j. at r (j + y * sh.width))
        (λ j _. le_trans (small (j + y * sh.width)) residual-short) x h

    -- its first k terms
    pub row_stage-part-fits : (x y : ℕ) → x < sh.width → (k : ℕ) → k ≤ sh.width → SFits w32 (sum k (λ j. weight sh.horizontal sh.width x j *ℤ at r (j + y * sh.width)))
    row_stage-part-fits x y h =
        forward-part-fits sh.horizontal sh.width t.horizontal t.width (λ j. at r (j + y * sh.width))
        (λ j _. le_trans (small (j + y * sh.width)) residual-short) x h

    pub row_stage-fits : (x y : ℕ) → x < sh.width → SFits w32 (row_stage sh r x y)
    row_stage-fits x y h = fits_in tt (within (row_stage sh r x y) (row_stage-in x y h))

    -- "y + 2^(p-1)"
    pub row_stage-rounding-fits : (x y : ℕ) → x < sh.width → SFits w32 (row_stage sh r x y +ℤ pos (2 ^ (row_shift sh - 1)))
    row_stage-rounding-fits x y h =
        let d = depth-cases sh.depth t.depth in
        rounding-fits (row_stage sh r x y) (row_shift sh) (row_stage-in x y h) (omega (arith, log-in sh.width))

    pub row_value-in : (x y : ℕ) → x < sh.width → nat_abs (row_value sh r x y) ≤ most_value sh
    unfolding row_value
    row_value-in x y h =
        let d = depth-cases sh.depth t.depth in
        let p : 0 < row_shift sh = omega (arith, log-in sh.width) in
        let e : 64 * sh.width * most_residual sh ≡ 2 ^ row_shift sh * most_value sh
        = ap (λ n. n * most_residual sh) row-power ∙ mul_assoc (2 ^ row_shift sh) (2 ^ (15 - sh.depth)) (most_residual sh) in
        nearest_in (row_shift sh) (row_stage sh r x y) (most_value sh) p
        (subst (λ n. nat_abs (row_stage sh r x y) ≤ n) e
        (forward_sum-in sh.horizontal sh.width (has-line sh.horizontal sh.width t.horizontal t.width) (λ j. at r (j + y * sh.width)) (most_residual sh) (λ j _. small (j + y * sh.width)) x h))

    pub row_value-fits : (x y : ℕ) → x < sh.width → SFits w16 (row_value sh r x y)
    row_value-fits x y h = fits_in tt (within (row_value sh r x y) (le_trans (row_value-in x y h) value-short))

    pub column_stage-in : (x y : ℕ) → x < sh.width → y < sh.height → nat_abs (column_stage sh r x y) ≤ 67108864
    column_stage-in x y h v =
        forward_sum-short sh.vertical sh.height t.vertical t.height (λ j. row_value sh r x j)
        (λ j _. omega (arith, row_value-in x j h, value-short)) y v

    -- its first k terms
    pub column_stage-part-fits : (x y : ℕ) → x < sh.width → y < sh.height → (k : ℕ) → k ≤ sh.height → SFits w32 (sum k (λ j. weight sh.vertical sh.height y j *ℤ row_value sh r x j))
    column_stage-part-fits x y h v =
        forward-part-fits sh.vertical sh.height t.vertical t.height (λ j. row_value sh r x j)
        (λ j _. omega (arith, row_value-in x j h, value-short)) y v

    pub column_stage-fits : (x y : ℕ) → x < sh.width → y < sh.height → SFits w32 (column_stage sh r x y)
    column_stage-fits x y h v = fits_in tt (within (column_stage sh r x y) (column_stage-in x y h v))

    -- "y + 2^(q-1)"
    pub column_stage-rounding-fits : (x y : ℕ) → x < sh.width → y < sh.height → SFits w32 (column_stage sh r x y +ℤ pos (2 ^ (column_shift sh - 1)))
    column_stage-rounding-fits x y h v = rounding-fits (column_stage sh r x y) (column_shift sh) (column_stage-in x y h v) (omega (arith, log-in sh.height))

    pub column_value-in : (x y : ℕ) → x < sh.width → y < sh.height → nat_abs (column_value sh r x y) ≤ most_value sh
    unfolding column_value
    column_value-in x y h v =
        nearest_in (column_shift sh) (column_stage sh r x y) (most_value sh) (omega arith)
        (subst (λ n. nat_abs (column_stage sh r x y) ≤ n * most_value sh) (size-power sh.height t.height)
        (forward_sum-in sh.vertical sh.height (has-line sh.vertical sh.height t.vertical t.height) (λ j. row_value sh r x j) (most_value sh) (λ j _. row_value-in x j h) y v))

    pub column_value-fits : (x y : ℕ) → x < sh.width → y < sh.height → SFits w16 (column_value sh r x y)
    column_value-fits x y h v = fits_in tt (within (column_value sh r x y) (le_trans (column_value-in x y h v) value-short))

    pub coefficient-in : (x y : ℕ) → x < sh.width → y < sh.height → nat_abs (coefficient sh r x y) ≤ most_value sh
    unfolding coefficient
    coefficient-in x y h v = pick (λ z. nat_abs z ≤ most_value sh) (ltb x sh.columns && ltb y sh.rows) (column_value-in x y h v) zero-le

    pub coefficient-fits : (x y : ℕ) → x < sh.width → y < sh.height → SFits w16 (coefficient sh r x y)
    coefficient-fits x y h v = fits_in tt (within (coefficient sh r x y) (le_trans (coefficient-in x y h v) value-short))
