-- The stage from its parts: values by a matrix, in their places, are what the definition has. Assumes nothing.
use mathlib.Core.Path.{◌≡◌, sym, ap, ◌∙◌, subst}
use mathlib.Core.Bool.{Bool, true, false, cond}
use mathlib.Core.List.{List}
use Prim.Native.Nat.{ℕ, ◌+◌, ◌*◌, ◌/◌, ◌%◌, ◌≤◌, ◌<◌}
use native.Mathlib.Nat.{zero-add}
use native.Mathlib.Omega.{arith}
use lib.IntN.{ℤ, ◌*ℤ◌}
use lib.ListN.{length}
use lib.Signed.{◌≤ℤ◌}
use Rattle.algebra.specs.Sum.{sum}
use Rattle.algebra.specs.Lists.{at, tabulate}
use Rattle.algebra.proofs.Sum.{sum-cong}
use Rattle.algebra.proofs.Lists.{tab-at, tab-length, column-of, row_of}
use Rattle.meaning.specs.Plan.{range_of}
use Rattle.meaning.specs.Inverse.{middle}
use Rattle.kernel_steps.specs.Written.{WroteFrom}
use Rattle.lfnst_tables.specs.Lfnst.{entry, outputs_of, matrix_of, lfnst}
use Rattle.lfnst.specs.LowFrequency.{input, inputs, is_wide, low_sum, low_value, standing, low_at}
use Rattle.lfnst.specs.Work.{Ranged, GivenStage, Placed, corner_at, side_of}
use Rattle.lfnst.proofs.Same.{low_same}
use Rattle.lfnst.proofs.Standing.{standing-same}

-- ---- what the parts are given
module _ {width height index set reach columns rows : ℕ} {r : List ℤ} (g : GivenStage width height index set reach columns rows r) where
  -- the corner is there
  pub four-in : (4 ≤ width) × (4 * width ≤ length r)
  four-in = by (is_wide width height) g.within g.room
    where
      by : (b : Bool) → cond b 8 4 ≤ width → cond b 8 4 * width ≤ length r → (4 ≤ width) × (4 * width ≤ length r)
      by true w l = (omega arith, omega (arith, l))
      by false w l = (w, l)

  -- there is room for n columns and rows, where these are written
  pub side-in : (n : ℕ) → n ≡ side_of width height → (n ≤ width) × (n * width ≤ length r)
  side-in n e = (subst (λ (n : ℕ). n ≤ width) (sym e) g.within, subst (λ (n : ℕ). n * width ≤ length r) (sym e) g.room)

  pub ranged-corner : {corner : List ℤ} → corner ≡ tabulate 16 (λ k. corner_at width columns rows r (k % 4) (k / 4)) → Ranged reach corner
  ranged-corner e =
      subst (Ranged reach) (sym e)
      (record {
        long = tab-length 16 (λ k. corner_at width columns rows r (k % 4) (k / 4));
        inside = λ k h. subst (λ (z : ℤ). ((range_of reach).low ≤ℤ z) × (z ≤ℤ (range_of reach).high)) (sym (tab-at 16 (λ k. corner_at width columns rows r (k % 4) (k / 4)) k h)) (g.inside (k % 4) (k / 4));
      })

-- the corner as it is read, by column and row
pub corner-at : (c : ℕ → ℕ → ℤ) (corner : List ℤ) → corner ≡ tabulate 16 (λ k. c (k % 4) (k / 4)) → (x y : ℕ) → x < 4 → y < 4 → at corner (x + 4 * y) ≡ c x y
corner-at c corner e x y h l =
    let f : x + 4 * y ≡ x + y * 4 = omega arith in
    let p : x + y * 4 < 16 = omega arith in
    ap (λ (r : List ℤ). at r (x + 4 * y)) e ∙ ap (at (tabulate 16 (λ k. c (k % 4) (k / 4)))) f ∙ tab-at 16 (λ k. c (k % 4) (k / 4)) (x + y * 4) p ∙ (λ i. c (column-of y h i) (row_of y h i))

module _ {width height index set reach columns rows : ℕ} {r : List ℤ} (g : GivenStage width height index set reach columns rows r) (transposed : Bool) (pairs : ℕ) {corner v v₀ : List ℤ} {wide : Bool} {matrix : ℕ}
    (w : wide ≡ is_wide width height) (p : 2 * pairs ≡ inputs width height) (m : matrix ≡ matrix_of set index)
    (read : corner ≡ tabulate 16 (λ k. corner_at width columns rows r (k % 4) (k / 4)))
    (done : WroteFrom 0 (outputs_of wide) v v₀ (λ j. middle (range_of reach) (sum (2 * pairs) (λ i. input (λ x y. at corner (x + 4 * y)) i *ℤ entry (outputs_of wide) matrix i j)))) where
  abbrev c : ℕ → ℕ → ℤ
  c x y = at corner (x + 4 * y)

  sums : (j : ℕ) → sum (2 * pairs) (λ i. input c i *ℤ entry (outputs_of wide) matrix i j) ≡ low_sum width height index set c j
  unfolding low_sum
  sums j =
      sum-cong (2 * pairs) _ (λ i. input c i *ℤ lfnst set index (is_wide width height) i j) (λ i l s. input c i *ℤ entry (outputs_of (w s)) (m s) i j)
      ∙ ap (λ (n : ℕ). sum n (λ i. input c i *ℤ lfnst set index (is_wide width height) i j)) p

  value : (j : ℕ) → j < outputs_of wide → at v j ≡ low_value width height index set reach c j
  unfolding low_value
  value j h = ap (at v) (sym (zero-add j)) ∙ done.done j h ∙ ap (middle (range_of reach)) (sums j)

  same_at : (x y : ℕ) → x < 8 → y < 8 → standing wide transposed (at v) x y ≡ low_at width height index set transposed reach (corner_at width columns rows r) x y
  unfolding low_at
  same_at x y h l =
      standing-same wide value transposed x y h l
      ∙ ap (λ (b : Bool). standing b transposed (low_value width height index set reach c) x y) w
      ∙ low_same c (corner_at width columns rows r) (corner-at (corner_at width columns rows r) corner read) width height index set transposed reach x y

  pub staged : {r₁ : List ℤ} (n : ℕ) → n ≡ side_of width height → n ≤ 8 → Placed n n width (standing wide transposed (at v)) r r₁
      → Placed (side_of width height) (side_of width height) width (low_at width height index set transposed reach (corner_at width columns rows r)) r r₁
  staged n e few q =
      record { long = q.long; done = λ x y h l. q.done x y (omega (arith, h, e)) (omega (arith, l, e)) ∙ same_at x y (omega (arith, h, e, few)) (omega (arith, l, e, few)) }
