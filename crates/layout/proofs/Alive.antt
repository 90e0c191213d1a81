-- Only the live part of a block is worked: zero inputs add nothing, and a zero column has middle values 0 and no rail. Over any
-- plan whose range keeps 0. Assumes nothing.
use mathlib.Core.Path.{◌≡◌, refl, sym, ap, ◌∙◌}
use mathlib.Core.Bool.{Bool, true, false, cond}
use mathlib.Core.List.{List}
use Prim.Native.Nat.{ℕ, ◌+◌, ◌*◌, ◌≤◌, ◌<◌}
use native.Mathlib.Omega.{arith}
use borrow.Author.Tests.{ltb-false}
use lib.Dec.{ltb}
use lib.IntN.{ℤ, pos, ◌*ℤ◌, *ℤ-zero}
use Rattle.algebra.specs.Sum.{sum, sumℕ}
use Rattle.algebra.specs.Clip.{clip}
use Rattle.algebra.specs.Lists.{at}
use Rattle.algebra.proofs.Sum.{sum-cong, sum-none, sum-rest, sumℕ-cong, sumℕ-swap, sumℕ-rest, zero-sum}
use Rattle.meaning.specs.Weights.{weight}
use Rattle.meaning.specs.Line.{inverse_sum}
use Rattle.meaning.specs.Plan.{Plan}
use Rattle.meaning.specs.Inverse.{column_sum, rounded, middle, middle_at, railed, count, rails, row_sum}
use Rattle.layout.specs.Part.{Part}

module _ (p : Plan) (keeps : clip p.range (pos 0) ≡ pos 0)
    (c : List ℤ) (columns rows : ℕ) (live : Part p.width p.height columns rows c) (kept : Part p.width p.height p.columns p.rows c) where
  abbrev down : ℕ → ℕ → ℕ → ℤ
  down x y i = weight p.vertical p.height i y *ℤ at c (x + i * p.width)

  nothing : (x y i : ℕ) → at c (x + i * p.width) ≡ pos 0 → down x y i ≡ pos 0
  nothing x y i e = ap (λ (z : ℤ). weight p.vertical p.height i y *ℤ z) e ∙ *ℤ-zero (weight p.vertical p.height i y)

  -- zero inputs add nothing
  pub column-is : (x y : ℕ) → x < p.width → sum rows (down x y) ≡ column_sum p c x y
  unfolding column_sum inverse_sum
  column-is x y h =
      sym (sum-rest rows p.height (down x y) live.low (λ i l g. nothing x y i (live.below x i h l g)))
      ∙ sum-rest p.rows p.height (down x y) kept.low (λ i l g. nothing x y i (kept.below x i h l g))

  -- a zero column
  column-none : (x y : ℕ) → ((i : ℕ) → i < p.height → at c (x + i * p.width) ≡ pos 0) → column_sum p c x y ≡ pos 0
  unfolding column_sum inverse_sum
  column-none x y z =
      sum-cong p.rows (down x y) (λ i. pos 0) (λ i h. nothing x y i (z i (omega (arith, kept.low)))) ∙ sum-none p.rows

  abbrev pub mid : ℕ → ℕ → ℤ
  mid x y = middle p.range (column_sum p c x y)

  mid_none : (x y : ℕ) → column_sum p c x y ≡ pos 0 → mid x y ≡ pos 0
  mid_none x y e = ap (middle p.range) e ∙ keeps

  right-none : (x y : ℕ) → columns ≤ x → x < p.width → column_sum p c x y ≡ pos 0
  right-none x y l h = column-none x y (λ i g. live.right x i l h g)

  -- it has middle values 0, whether it is kept or not
  pub middle-is : (x y : ℕ) → x < p.width → mid x y ≡ middle_at p c x y
  unfolding middle_at
  middle-is x y h = pick (ltb x p.columns) refl
    where
      pick : (b : Bool) → ltb x p.columns ≡ b → mid x y ≡ cond b (middle p.range (column_sum p c x y)) (pos 0)
      pick true e = refl
      pick false e = mid_none x y (column-none x y (λ i g. kept.right x i (ltb-false x p.columns e) h g))

  -- .. and no rail
  abbrev pub rail : ℕ → ℕ → ℕ
  rail x y = count (railed (rounded (column_sum p c x y)) (mid x y))

  rail-none : (x y : ℕ) → column_sum p c x y ≡ pos 0 → rail x y ≡ 0
  rail-none x y e = λ i. count (railed (rounded (e i)) (mid_none x y e i))

  -- ---- the row stage, and the count
  abbrev along : ℕ → ℕ → ℕ → ℤ
  along x y i = weight p.horizontal p.width i x *ℤ middle_at p c i y

  gone : (x y i : ℕ) → i < p.width → column_sum p c i y ≡ pos 0 → along x y i ≡ pos 0
  gone x y i h e =
      ap (λ (z : ℤ). weight p.horizontal p.width i x *ℤ z) (sym (middle-is i y h) ∙ mid_none i y e) ∙ *ℤ-zero (weight p.horizontal p.width i x)

  beyond : (x y : ℕ) → p.columns ≤ x → x < p.width → column_sum p c x y ≡ pos 0
  beyond x y l h = column-none x y (λ i g. kept.right x i l h g)

  pub row_is : (x y : ℕ) → sum columns (λ i. weight p.horizontal p.width i x *ℤ mid i y) ≡ row_sum p c x y
  unfolding row_sum inverse_sum
  row_is x y =
      sum-cong columns _ (along x y) (λ i h. ap (λ (z : ℤ). weight p.horizontal p.width i x *ℤ z) (middle-is i y (omega (arith, live.narrow))))
      ∙ sym (sum-rest columns p.width (along x y) live.narrow (λ i l g. gone x y i g (right-none i y l g)))
      ∙ sum-rest p.columns p.width (along x y) kept.narrow (λ i l g. gone x y i g (beyond i y l g))

  abbrev of-column : ℕ → ℕ
  of-column x = sumℕ p.height (λ y. rail x y)

  pub rails-are : sumℕ p.height (λ y. sumℕ columns (λ x. rail x y)) ≡ rails p c
  unfolding rails
  rails-are =
      sumℕ-swap p.height columns (λ y x. rail x y)
      ∙ sym (sumℕ-rest columns p.width of-column live.narrow (λ x l g. zero-sum p.height _ (λ y _. rail-none x y (right-none x y l g))))
      ∙ sumℕ-rest p.columns p.width of-column kept.narrow (λ x l g. zero-sum p.height _ (λ y _. rail-none x y (beyond x y l g)))
      ∙ sumℕ-cong p.columns _ _ (λ x h. sumℕ-cong p.height _ _ (λ y _. ap (λ (z : ℤ). count (railed (rounded (column_sum p c x y)) z)) (middle-is x y (omega (arith, kept.narrow)))))
