-- Demand 2 of an accepted transform block: every partial sum of either stage, and what each rounding is put to, stays in 32 bits with the
-- switch off (`sums-32`) and in 64 with it on (`sums-64`), at every size; so do those of the one stage of a thin block (`line-sums-32`,
-- `line-sums-64`). With LFNST those of the two stages behind it do (`low-sums-32`, `low-sums-64`), and its own are in 32 bits at either
-- position of the switch (`stage-sums-32`). Assumes nothing.
use native.Mathlib.Omega.{arith}
use mathlib.Core.Path.{◌≡◌, refl, sym, ap, ◌∙◌, subst}
use mathlib.Core.Bool.{Bool, true, false, cond}
use mathlib.Core.List.{List}
use Prim.Native.Nat.{ℕ, ◌+◌, ◌*◌, ◌-◌, ◌^◌, ◌≤◌, ◌<◌, max}
use native.Mathlib.Decide.{ℕ_discrete}
use borrow.Author.Tests.{eq-eqb, ne_eqb}
use lib.Dec.{eqb}
use native.Mathlib.Nat.{le_trans, le_refl, mul-le-mul}
use lib.IntN.{ℤ, pos, nat_abs, ◌+ℤ◌, ◌*ℤ◌}
use lib.Pow.{pow_mono}
use mir.Syntax.{Width, w32, w64}
use mir.Val.{SFits}
use Rattle.algebra.specs.Sum.{sum}
use Rattle.algebra.specs.Lists.{at}
use Rattle.algebra.proofs.Order.{within, fits_in}
use Rattle.algebra.proofs.Shift.{rounding-in}
use Rattle.meaning.specs.Line.{inverse_sum}
use Rattle.meaning.specs.Plan.{range_of, reach}
use Rattle.meaning.specs.Inverse.{column_sum, middle_at, row_sum}
use Rattle.meaning.proofs.Cases.{line-in}
use Rattle.meaning.proofs.Sizes.{column_sizes_kept, inverse-part}
use Rattle.meaning.proofs.PlanSizes.{down-sizes, along-sizes, row-part}
use Rattle.meaning.proofs.LongRules.{around}
use Rattle.lfnst_tables.specs.Lfnst.{outputs_of, lfnst}
use Rattle.lfnst.specs.LowFrequency.{inputs, input, is_wide}
use Rattle.lfnst.proofs.Fits.{low_part, low-sum-fits}
use Rattle.transform_stages.specs.Work as stage
use Rattle.transform_block.specs.declared.TransformBlock.{TransformBlock}
use Rattle.transform_block.specs.TransformBlock.{is_on, is_thin, reach_of, last_of, transform_plan, of_side, side_sum, has_low, read_at, low_numbers, behind_low, transform_outcome}
use Rattle.transform_block.specs.Given.{GivenWork}
use Rattle.transform_block.proofs.Taken.{wide, high, deep, far, sized, in_reach, low-side}
use Rattle.transform_block.proofs.Ways.{given-upright, given-lying, read-upright, read_lying}
use Rattle.transform_block.proofs.Accepted.{transform-accepted}
use Rattle.transform_block.proofs.Behind.{some, most-two, sets, two-stages, read-size, behind-given}

-- ---- two stages: their first k terms, for every k, and e + 64 and r + 2^(s-1)
pub record SumsFit (w : Width) (b : TransformBlock) (c : List ℤ) : Type 0 where
  pub column : (x y k : ℕ) → x < b.columns → y < b.height → k ≤ b.rows → SFits w (inverse_sum b.vertical b.height k (λ i. at c (x + i * b.width)) y)
  pub column-rounding : (x y : ℕ) → x < b.columns → y < b.height → SFits w (column_sum (transform_plan b) c x y +ℤ pos 64)
  pub row : (x y k : ℕ) → x < b.width → k ≤ b.columns → SFits w (inverse_sum b.horizontal b.width k (λ i. middle_at (transform_plan b) c i y) x)
  pub row-rounding : (x y : ℕ) → x < b.width → SFits w (row_sum (transform_plan b) c x y +ℤ pos (2 ^ (last_of b - 1)))

-- ---- one stage
pub record LineSumsFit (w : Width) (b : TransformBlock) (c : List ℤ) : Type 0 where
  pub line : (j k : ℕ) → j < of_side b b.width b.height → k ≤ of_side b b.columns b.rows
      → SFits w (inverse_sum (of_side b b.horizontal b.vertical) (of_side b b.width b.height) k (at c) j)
  pub rounding : (j : ℕ) → j < of_side b b.width b.height → SFits w (side_sum b c j +ℤ pos (2 ^ (last_of b - 1)))

-- R with the switch off, and beside the depth
reach-off : (on : Bool) (d : ℕ) → on ≡ false → reach on d ≡ 15
unfolding reach
reach-off on d e = rw e

reach-least : (on : Bool) (d : ℕ) → reach on d ≤ max 15 (d + 6)
unfolding reach
reach-least true d = omega arith
reach-least false d = omega arith

-- 64 n of 2^R
abbrev most : TransformBlock → ℕ
most b = 4096 * 2 ^ reach_of b

module _ (b : TransformBlock) (c : List ℤ) (g : GivenWork b c) (w : Width) (fit : (z : ℤ) → nat_abs z ≤ most b + 4096 → SFits w z) where
  bounded : (n : ℕ) {z : ℕ} → n ≤ 64 → z ≤ 64 * n * 2 ^ reach_of b → z ≤ most b
  bounded n h l =
      let a : 64 * n ≤ 4096 = omega arith in
      le_trans l (mul-le-mul a (le_refl (2 ^ reach_of b)))

  fits : (z : ℤ) → nat_abs z ≤ most b → SFits w z
  fits z h = fit z (omega arith)

  rounded-fits : (s : ℕ) (z : ℤ) → s ≤ 13 → nat_abs z ≤ most b → SFits w (z +ℤ pos (2 ^ (s - 1)))
  rounded-fits s z h l =
      let q : 2 ^ (s - 1) ≤ 4096 = pow_mono {i = s - 1} {j = 12} (omega arith) in
      fit (z +ℤ pos (2 ^ (s - 1))) (omega (arith, rounding-in s z (most b) l))

  last-in : last_of b ≤ 13
  last-in = either (is_thin b)
    where
      either : (one : Bool) → cond one 6 5 + reach_of b - b.depth ≤ 13
      either true = let d = deep b c g.taken in omega (arith, d, reach-least (is_on b) b.depth)
      either false = let d = deep b c g.taken in omega (arith, d, reach-least (is_on b) b.depth)

  sums : is_thin b ≡ false → SumsFit w b c
  unfolding column_sum row_sum
  sums two =
      record {
        column = λ x y k l v m. fits _ (column x y k l v m);
        column-rounding = λ x y l v. rounded-fits 7 (column_sum (transform_plan b) c x y) (omega arith) (column x y b.rows l v (le_refl b.rows));
        row = λ x y k l m. fits _ (row x y k l m);
        row-rounding = λ x y l. rounded-fits (last_of b) (row_sum (transform_plan b) c x y) last-in (row x y b.columns l (le_refl b.columns));
      }
    where
      column : (x y k : ℕ) → x < b.columns → y < b.height → k ≤ b.rows → nat_abs (inverse_sum b.vertical b.height k (λ i. at c (x + i * b.width)) y) ≤ most b
      column x y k l v m =
          bounded b.height (high b c g.taken)
          (inverse-part b.vertical b.height (λ i. at c (x + i * b.width)) (64 * b.height) (2 ^ reach_of b) b.rows y (down-sizes (sized b c g.taken two) y v)
          (λ i h. in_reach (reach_of b) (at c (x + i * b.width)) (g.inside x i l h)) k m)

      row : (x y k : ℕ) → x < b.width → k ≤ b.columns → nat_abs (inverse_sum b.horizontal b.width k (λ i. middle_at (transform_plan b) c i y) x) ≤ most b
      row x y k l m = bounded b.width (wide b c g.taken) (row-part (transform_plan b) c (around (reach_of b)) x y (along-sizes (sized b c g.taken two) x l) k m)

  -- the line of the side that is not 1
  line-part : (kind n count : ℕ) → stage.GivenOne kind n count (last_of b) c → ((i : ℕ) → i < count → nat_abs (at c i) ≤ 2 ^ reach_of b)
      → (j k : ℕ) → j < n → k ≤ count → nat_abs (inverse_sum kind n k (at c) j) ≤ most b
  line-part kind n count q small j k h m =
      bounded n (line-in kind n q.line)
      (inverse-part kind n (at c) (64 * n) (2 ^ reach_of b) count j (column_sizes_kept kind n q.line count j (omega (arith, q.few)) h) small k m)

  abbrev InLine : Bool → Type 0
  InLine t =
      (j k : ℕ) → j < cond t b.height b.width → k ≤ cond t b.rows b.columns
      → nat_abs (inverse_sum (cond t b.vertical b.horizontal) (cond t b.height b.width) k (at c) j) ≤ most b

  in-line : is_thin b ≡ true → InLine (eqb b.width 1)
  in-line one = by (ℕ_discrete b.width 1)
    where
      by : Dec (b.width ≡ 1) → InLine (eqb b.width 1)
      by (yes e) =
          subst InLine (sym (eq-eqb b.width 1 e))
          (line-part b.vertical b.height b.rows (given-upright b c g e) (λ i h. in_reach (reach_of b) (at c i) (read-upright b c g e i h)))
      by (no n) =
          let e = low-side b one (ne_eqb b.width 1 n) in
          subst InLine (sym (ne_eqb b.width 1 n))
          (line-part b.horizontal b.width b.columns (given-lying b c g n e) (λ i h. in_reach (reach_of b) (at c i) (read_lying b c g i h)))

  line-sums : is_thin b ≡ true → LineSumsFit w b c
  unfolding side_sum
  line-sums one =
      let all = in-line one in
      record {
        line = λ j k h m. fits _ (all j k h m);
        rounding = λ j h. rounded-fits (last_of b) (side_sum b c j) last-in (all j (cond (eqb b.width 1) b.rows b.columns) h (le_refl (cond (eqb b.width 1) b.rows b.columns)));
      }

-- ---- 32 bits with the switch off: 2^27 and some
module _ (b : TransformBlock) (c : List ℤ) (given : GivenWork b c) where
  short : is_on b ≡ false → (z : ℤ) → nat_abs z ≤ most b + 4096 → SFits w32 z
  short off z h =
      let e : reach_of b ≡ 15 = reach-off (is_on b) b.depth off in
      fits_in {B = 134221824} tt (within z (subst (λ (r : ℕ). nat_abs z ≤ 4096 * 2 ^ r + 4096) e h))

  long : (z : ℤ) → nat_abs z ≤ most b + 4096 → SFits w64 z
  long z h =
      let q : 2 ^ reach_of b ≤ 1048576 = pow_mono {i = reach_of b} {j = 20} (far b c given.taken).1 in
      fits_in {B = 4294971392} tt (within z (omega (arith, h, q)))

module _ (b : TransformBlock) (c : List ℤ) (number : (transform_outcome b c).0.number ≡ 0) where
  given : GivenWork b c
  given = transform-accepted b c number

  pub sums-32 : is_on b ≡ false → is_thin b ≡ false → SumsFit w32 b c
  sums-32 off = sums b c given w32 (short b c given off)

  pub line-sums-32 : is_on b ≡ false → is_thin b ≡ true → LineSumsFit w32 b c
  line-sums-32 off = line-sums b c given w32 (short b c given off)

  pub sums-64 : is_thin b ≡ false → SumsFit w64 b c
  sums-64 = sums b c given w64 (long b c given)

  pub line-sums-64 : is_thin b ≡ true → LineSumsFit w64 b c
  line-sums-64 = line-sums b c given w64 (long b c given)

  -- ---- with LFNST: the two stages run on what it left
  module _ (low : has_low b ≡ true) where
    behind : GivenWork (behind_low b) (low_numbers b c)
    behind = behind-given b c given.taken low

    two : is_thin (behind_low b) ≡ false
    unfolding is_thin
    two = two-stages b c given.taken low

    pub low-sums-32 : is_on b ≡ false → SumsFit w32 (behind_low b) (low_numbers b c)
    unfolding is_on
    low-sums-32 off = sums (behind_low b) (low_numbers b c) behind w32 (short (behind_low b) (low_numbers b c) behind off) two

    pub low-sums-64 : SumsFit w64 (behind_low b) (low_numbers b c)
    low-sums-64 = sums (behind_low b) (low_numbers b c) behind w64 (long (behind_low b) (low_numbers b c) behind) two

    -- the first k terms of value j: 470 * 2^R bounds them
    pub stage-sums-32 : (j k : ℕ) → j < outputs_of (is_wide b.width b.height) → k ≤ inputs b.width b.height
        → let z = sum k (λ i. input (read_at b c) i *ℤ lfnst b.set b.lfnst (is_wide b.width b.height) i j) in
        (nat_abs z ≤ 470 * 2 ^ reach_of b) × (SFits w32 z × SFits w32 (z +ℤ pos 64))
    stage-sums-32 j k h m =
        let t = given.taken in
        let s = low_part b.width b.height b.lfnst b.set (reach_of b) (read_at b c) (some b c t low) (most-two b c t low) (sets b c t low) (λ x y _ _. read-size b c given x y) j h k m in
        (s, low-sum-fits b.width b.height b.lfnst b.set (reach_of b) (read_at b c) (some b c t low) (most-two b c t low) (sets b c t low) (λ x y _ _. read-size b c given x y) j h k m (far b c t).1)
