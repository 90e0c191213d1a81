-- From a block to a room that serves it. Assumes nothing.
use mathlib.Core.Path.{◌≡◌, refl, sym, ap, ◌∙◌, subst}
use mathlib.Core.Bool.{Bool, true, false, cond}
use mathlib.Core.List.{List}
use Prim.Native.Nat.{ℕ, ◌+◌, ◌*◌, ◌/◌, ◌%◌, ◌≤◌, ◌<◌, min}
use native.Mathlib.Nat.{mul_assoc, mul_comm, mul-le-mul_right}
use native.Mathlib.Omega.{arith}
use borrow.Author.Tests.{ltb-true, ltb-false}
use lib.Dec.{ltb}
use lib.ListN.{length}
use lib.IntN.{ℤ, pos, ◌*ℤ◌, *ℤ-zero}
use Rattle.algebra.specs.Lists.{at, block}
use Rattle.algebra.specs.Shift.{nearest}
use Rattle.algebra.proofs.Sum.{sum-cong, sum-none, sum-rest}
use Rattle.algebra.proofs.Lists.{block_cong}
use Rattle.meaning.specs.Shape.{is_size}
use Rattle.meaning.specs.Weights.{weight}
use Rattle.meaning.specs.Line.{inverse_sum}
use Rattle.meaning.specs.Plan.{short_range}
use Rattle.meaning.specs.Inverse.{middle}
use Rattle.kernel_levels.specs.Kernels.{turned_place}
use Rattle.dct2_block.specs.Stages.{middle_of, residual_by, place_of, whole_of, Work, InRoom, Asked}
use Rattle.dct2_block.proofs.Kernel.{below-8, wide_is}
use Rattle.dct2_block.proofs.Strips.{in-strip, in-strip-4}
use Rattle.kernel_picks.proofs.Cases.{few-live}

-- k strips of h rows
strips-of : (k h : ℕ) → 8 * (k * h) ≡ k * (8 * h)
strips-of k h = sym (mul_assoc 8 k h) ∙ ap (λ (n : ℕ). n * h) (mul_comm 8 k) ∙ mul_assoc k 8 h

module _ {room w h shift rows columns high wide stride : ℕ} {c r : List ℤ} (g : InRoom room w h shift rows columns high wide stride c r) where
  there : (x y : ℕ) → x < wide → y < h → place_of (min h 8) (min w 8) (min w 8 * h) x y < room
  there x y a b = by (ltb w 8) refl
    where
      by : (t : Bool) → ltb w 8 ≡ t → place_of (min h 8) (min w 8) (min w 8 * h) x y < room
      by true t =
          let n : w ≡ 4 = below-8 w g.read.width (ltb-true w 8 t) in
          let e : min w 8 ≡ 4 = ap (λ (k : ℕ). min k 8) n in
          let l = few-live (min h 8) w wide g.kernel in
          let q : x / 8 ≡ 0 = omega arith in
          let i : x % 8 ≡ x = omega arith in
          let one : (wide + 7) / 8 ≡ 1 = omega arith in
          let s : place_of (min h 8) (min w 8) (min w 8 * h) x y ≡ 0 * (min w 8 * h) + turned_place (min h 8) 4 x y = λ j. q j * (min w 8 * h) + turned_place (min h 8) (e j) (i j) y in
          omega (arith, s, in-strip-4 (min w 8) h high g.read.kernel x y (omega arith) b, g.enough, ap (λ (k : ℕ). k * h) one)
      by false t =
          let e : min w 8 ≡ 8 = (wide_is w g.read.width (ltb-false w 8 t)).0 in
          let k : x / 8 + 1 ≤ (wide + 7) / 8 = omega arith in
          let n : x % 8 < 8 = omega arith in
          let s : place_of (min h 8) (min w 8) (min w 8 * h) x y ≡ x / 8 * (8 * h) + turned_place (min h 8) 8 (x % 8) y = λ j. x / 8 * (e j * h) + turned_place (min h 8) (e j) (x % 8) y in
          omega (arith, s, in-strip (min w 8) h high g.read.kernel (x % 8) y n b, mul-le-mul_right (8 * h) k, strips-of ((wide + 7) / 8) h, g.enough)

  pub fits_work : (m : List ℤ) → length m ≡ room → ((k : ℕ) → at m k ≡ pos 0) → Work w h shift rows columns high wide stride c m r
  fits_work m long zeros =
      record {
        read = g.read;
        across = record { height = g.height; kernel = g.kernel; there = λ x y a b. omega (arith, there x y a b, long) };
        room = omega (arith, long, mul-le-mul_right h g.strips, mul_assoc ((wide + 7) / 8) 8 h, strips-of ((wide + 7) / 8) h, g.enough);
        zeros = zeros;
        out = g.out;
        some = g.some;
        short = g.short;
      }

-- ---- whole strips
pub whole_in : (w columns : ℕ) → is_size w ≡ true → columns ≤ w → (columns ≤ whole_of w columns) × ((whole_of w columns ≤ w) × (whole_of w columns % min w 8 ≡ 0))
whole_in w columns size narrow = by (ltb w 8) refl
  where
    by : (t : Bool) → ltb w 8 ≡ t → let n = cond t w ((columns + 7) / 8 * 8) in (columns ≤ n) × ((n ≤ w) × (n % min w 8 ≡ 0))
    by true t = let n : w ≡ 4 = below-8 w size (ltb-true w 8 t) in (narrow, (omega arith, ap (λ (k : ℕ). k % min k 8) n))
    by false t =
        let e = wide_is w size (ltb-false w 8 t) in
        (omega arith, (omega (arith, e.1, narrow), subst (λ (k : ℕ). (columns + 7) / 8 * 8 % k ≡ 0) (sym e.0) (omega arith)))

module _ {w h shift rows columns high wide stride : ℕ} {c r : List ℤ} (g : Asked w h shift rows columns high wide stride c r) where
  pub asked-whole : (columns ≤ whole_of w columns) × ((whole_of w columns ≤ w) × (whole_of w columns % min w 8 ≡ 0))
  asked-whole = whole_in w columns g.width g.narrow

  whole-strips : whole_of w columns ≤ (wide + 7) / 8 * 8
  whole-strips = by (ltb w 8) refl
    where
      by : (t : Bool) → ltb w 8 ≡ t → cond t w ((columns + 7) / 8 * 8) ≤ (wide + 7) / 8 * 8
      by true t = let n : w ≡ 4 = below-8 w g.width (ltb-true w 8 t) in omega (arith, g.any)
      by false t = omega (arith, g.few)

  pub asked-fits : (room whole : ℕ) → whole ≡ whole_of w columns → 8 * ((wide + 7) / 8 * h) ≤ room → InRoom room w h shift rows whole high wide stride c r
  asked-fits room whole e enough =
      record {
        read = record {
          width = g.width;
          kernel = g.down;
          few = g.low;
          some = omega (arith, asked-whole.0, g.any);
          narrow = omega (arith, asked-whole.1.0);
          strips = subst (λ (n : ℕ). n % min w 8 ≡ 0) (sym e) asked-whole.1.1;
          there = λ x y a b. g.there x y (omega arith) b;
        };
        height = g.height;
        kernel = g.along;
        strips = omega (arith, whole-strips);
        enough = enough;
        out = g.out;
        some = g.some;
        short = g.short;
      }

  -- the columns that fill up the last strip have middle values 0
  zero-middle : (x y : ℕ) → columns ≤ x → x < whole_of w columns → middle_of h stride rows c x y ≡ pos 0
  unfolding inverse_sum short_range
  zero-middle x y a b =
      ap (middle short_range) (sum-cong rows (λ i. weight 0 h i y *ℤ at c (x + i * stride)) (λ i. pos 0) (λ i l. ap (λ (z : ℤ). weight 0 h i y *ℤ z) (g.clear x i a b l) ∙ *ℤ-zero (weight 0 h i y)) ∙ sum-none rows)

  used-sum : (whole : ℕ) → whole ≡ whole_of w columns → (x y : ℕ)
      → inverse_sum 0 w (min wide whole) (λ i. middle_of h stride rows c i y) x ≡ inverse_sum 0 w columns (λ i. middle_of h stride rows c i y) x
  unfolding inverse_sum
  used-sum whole e x y =
      sum-rest columns (min wide whole) (λ i. weight 0 w i x *ℤ middle_of h stride rows c i y) (omega (arith, asked-whole.0, g.few))
      (λ i a b. ap (λ (z : ℤ). weight 0 w i x *ℤ z) (zero-middle i y a (omega arith)) ∙ *ℤ-zero (weight 0 w i x))

  -- what both stages in a room leave, as the block's
  pub used-block : (whole : ℕ) → whole ≡ whole_of w columns
      → block w h (residual_by w h shift stride rows (min wide whole) c) ≡ block w h (residual_by w h shift stride rows columns c)
  used-block whole e = block_cong w h _ _ (λ x y _ _. ap (nearest shift) (used-sum whole e x y))
