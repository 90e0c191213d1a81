-- What is not read does not matter: two lists that hold the same in the first columns and rows give the same block and the same rail
-- count, over any plan. Assumes nothing.
use mathlib.Core.Path.{◌≡◌, refl, ap}
use mathlib.Core.Bool.{Bool, true, false, cond}
use mathlib.Core.List.{List}
use Prim.Native.Nat.{ℕ, ◌+◌, ◌*◌, ◌<◌}
use borrow.Author.Tests.{ltb-true}
use lib.Dec.{ltb}
use lib.IntN.{ℤ, pos, ◌*ℤ◌}
use Rattle.algebra.specs.Shift.{nearest}
use Rattle.algebra.specs.Lists.{at}
use Rattle.algebra.proofs.Sum.{sum-cong, sumℕ-cong}
use Rattle.algebra.proofs.Lists.{block_cong}
use Rattle.meaning.specs.Weights.{weight}
use Rattle.meaning.specs.Line.{inverse_sum}
use Rattle.meaning.specs.Plan.{Plan}
use Rattle.meaning.specs.Inverse.{column_sum, rounded, middle, middle_at, railed, count, rails, row_sum, residual, inverse_block}

module _ (p : Plan) (c d : List ℤ) (same : (x y : ℕ) → x < p.columns → y < p.rows → at c (x + y * p.width) ≡ at d (x + y * p.width)) where
  column-same : (x y : ℕ) → x < p.columns → column_sum p c x y ≡ column_sum p d x y
  unfolding column_sum inverse_sum
  column-same x y h =
      sum-cong p.rows (λ i. weight p.vertical p.height i y *ℤ at c (x + i * p.width)) (λ i. weight p.vertical p.height i y *ℤ at d (x + i * p.width))
      (λ i l. ap (λ (z : ℤ). weight p.vertical p.height i y *ℤ z) (same x i h l))

  middle-same : (x y : ℕ) → middle_at p c x y ≡ middle_at p d x y
  unfolding middle_at
  middle-same x y = either (ltb x p.columns) refl
    where
      either : (b : Bool) → ltb x p.columns ≡ b → cond b (middle p.range (column_sum p c x y)) (pos 0) ≡ cond b (middle p.range (column_sum p d x y)) (pos 0)
      either true e = ap (middle p.range) (column-same x y (ltb-true x p.columns e))
      either false e = refl

  pub rails-same : rails p c ≡ rails p d
  unfolding rails
  rails-same =
      sumℕ-cong p.columns _ _ (λ x h. sumℕ-cong p.height _ _ (λ y _ i. count (railed (rounded (column-same x y h i)) (middle-same x y i))))

  residual-same : (x y : ℕ) → residual p c x y ≡ residual p d x y
  unfolding residual row_sum inverse_sum
  residual-same x y =
      ap (nearest p.last)
      (sum-cong p.columns (λ i. weight p.horizontal p.width i x *ℤ middle_at p c i y) (λ i. weight p.horizontal p.width i x *ℤ middle_at p d i y)
      (λ i _. ap (λ (z : ℤ). weight p.horizontal p.width i x *ℤ z) (middle-same i y)))

  pub block_same : inverse_block p c ≡ inverse_block p d
  unfolding inverse_block
  block_same = block_cong p.width p.height (residual p c) (residual p d) (λ x y _ _. residual-same x y)
