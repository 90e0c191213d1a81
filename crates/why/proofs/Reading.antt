-- What the tables and the coefficients of a call that was let pass hold: the numbers of the definitions, and how large they are.
-- Assumes nothing.
use native.Mathlib.Omega.{arith}
use mathlib.Core.Path.{◌≡◌}
use mathlib.Core.Bool.{Bool, false}
use mathlib.Core.List.{List}
use Prim.Native.Nat.{ℕ, ◌+◌, ◌*◌, ◌/◌, ◌^◌, ◌≤◌, ◌<◌}
use native.Mathlib.Nat.{le_trans, mul-le-mul}
use lib.IntN.{ℤ, nat_abs, ◌*ℤ◌}
use lib.ListN.{length}
use lib.Pow.{pow_mono}
use Rattle.algebra.specs.Sum.{sum}
use Rattle.algebra.specs.Lists.{at}
use Rattle.algebra.proofs.Sum.{sum-cong}
use Rattle.meaning.specs.declared.Shape.{Shape}
use Rattle.meaning.specs.Weights.{weight}
use Rattle.meaning.specs.Plan.{Plan, range_of, reach, long_plan}
use Rattle.meaning.specs.Inverse.{column_sum, middle, middle_at, row_sum}
use Rattle.meaning.specs.Exact.{carried}
use Rattle.meaning.proofs.Cases.{size_in}
use Rattle.meaning.proofs.KeptPart.{columns-kept}
use Rattle.meaning.proofs.PlanSizes.{down-sizes, along-sizes, column_sum-size, row_sum-size}
use Rattle.meaning.proofs.LongRules.{reach-in, around}
use Rattle.meaning.proofs.LongSizes.{long-sized}
use Rattle.product.specs.Product.{spot, Laid}
use Rattle.stage_weights.specs.Stage.{Weights}
use Rattle.layout.proofs.Alive as alive
use Rattle.long_stages.specs.Sums.{Dot}
use Rattle.long_stages.specs.Work.{column_at, GivenLong}
use Rattle.long_stages.proofs.Ceil.{size-even}
use Rattle.long_stages.proofs.Whole.{keeps-zero, laid, columns-given, column-read}
use Rattle.why.specs.Work.{Clean}

module _ (extended : Bool) (sh : Shape) (c : List ℤ) (g : Clean extended sh c) where
  abbrev p : Plan
  p = long_plan extended sh

  abbrev w : ℕ
  w = sh.width

  abbrev h : ℕ
  h = sh.height

  abbrev R : ℕ
  R = reach extended sh.depth

  even-width : 2 * (w / 2) ≡ w
  even-width = size-even w g.passed.taken.width

  even-height : 2 * (h / 2) ≡ h
  even-height = size-even h g.passed.taken.height

  pub wide : w ≤ 32
  wide = size_in w g.passed.taken.width

  pub low : h ≤ 32
  low = size_in h g.passed.taken.height

  pub narrow : sh.columns ≤ w
  narrow = (columns-kept sh g.passed.taken).within

  -- all rows and all columns are worked
  all : GivenLong extended sh (h / 2) (w / 2) c c
  all =
      record {
        block = g.passed;
        live = record {
          narrow = omega (arith, even-width);
          low = omega (arith, even-height);
          right = λ x y l v. absurd (omega (arith, even-width));
          below = λ x y v l u. absurd (omega (arith, even-height));
        };
        kept = g.kept;
      }

  -- ---- down the columns
  module _ (down : List ℤ) (stored : Weights 1024 h false sh.vertical h down) (i y : ℕ) (hi : i < w) (hy : y < h) where
    pub dot-given : Dot down (2 * y) (2 * h) c i w (h / 2)
    dot-given = (columns-given extended sh (h / 2) (w / 2) c c all down stored).each i y (omega (arith, even-width)) hy

    pub sum-read : column_at down h c w (h / 2) i y ≡ column_sum p c i y
    sum-read = column-read extended sh (h / 2) (w / 2) c c all down stored i y hi hy

  -- ---- along the row
  module _ (along : List ℤ) (stored : Weights 1024 w false sh.horizontal w along) where
    along-laid : Laid w (w / 2) 2 (2 * w) (λ i j. weight sh.horizontal w i j) along
    along-laid = laid extended sh (h / 2) (w / 2) c c all sh.horizontal w (w / 2) along wide (omega (arith, even-width)) stored

    pub weight-held : (i x : ℕ) → i < w → x < w → 2 * x + spot (2 * w) i < length along
    weight-held i x hi hx = along-laid.held i x (omega (arith, even-width)) hx

    pub carried-read : (x : ℕ) (f g : ℕ → ℤ) → x < w → ((i : ℕ) → i < sh.columns → f i ≡ g i)
        → sum sh.columns (λ i. at along (2 * x + spot (2 * w) i) *ℤ f i) ≡ carried p x g
    unfolding carried
    carried-read x f g hx e =
        sum-cong sh.columns (λ i. at along (2 * x + spot (2 * w) i) *ℤ f i) (λ i. weight sh.horizontal w i x *ℤ g i)
        (λ i l t. along-laid.right i x (omega (arith, even-width, narrow)) hx t *ℤ e i l t)

  pub middle-read : (i y : ℕ) → i < w → middle (range_of R) (column_sum p c i y) ≡ middle_at p c i y
  middle-read = alive.middle-is p (keeps-zero extended sh (h / 2) (w / 2) c c all) c (2 * (w / 2)) (2 * (h / 2)) all.live g.kept

  -- ---- sizes: 64 n times 2^R is at most 2^31
  at_most : (n z : ℕ) → n ≤ 32 → z ≤ 64 * n * 2 ^ R → z ≤ 2147483648
  at_most n z l b =
      let a : 64 * n ≤ 2048 = omega arith in
      le_trans b (mul-le-mul a (pow_mono {i = R} {j = 20} (reach-in extended sh.depth).1))

  pub sum-small : (i y : ℕ) → y < h → nat_abs (column_sum p c i y) ≤ 2147483648
  sum-small i y hy =
      at_most h (nat_abs (column_sum p c i y)) low (column_sum-size p c g.small i y (down-sizes (long-sized extended sh g.passed.taken) y hy))

  pub row_small : (x y : ℕ) → x < w → nat_abs (row_sum p c x y) ≤ 2147483648
  row_small x y hx =
      at_most w (nat_abs (row_sum p c x y)) wide (row_sum-size p c (around R) x y (along-sizes (long-sized extended sh g.passed.taken) x hx))
