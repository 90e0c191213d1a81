-- The call does not depend on what it does not read: of two lists of one length that hold the same in the first columns and rows, where
-- one is accepted the other is, with the same outcome (`outcome-same`). Assumes nothing.
use native.Mathlib.Omega.{arith}
use mathlib.Core.Path.{◌≡◌, refl, sym, ap, ◌∙◌, subst}
use mathlib.Core.Bool.{Bool, true, false, cond, ◌&&◌}
use mathlib.Core.List.{List}
use Prim.Native.Nat.{ℕ, ◌+◌, ◌*◌, ◌≤◌, ◌<◌}
use native.Mathlib.Nat.{mul_comm, mul-one, zero-mul, zero-add, add-zero}
use native.Mathlib.Decide.{ℕ_discrete}
use borrow.Author.Tests.{eq-eqb, ne_eqb, ltb-true}
use lib.Dec.{eqb, ltb}
use lib.IntN.{ℤ, pos, ◌*ℤ◌}
use lib.ListN.{length}
use Rattle.algebra.specs.Shift.{nearest}
use Rattle.algebra.specs.Lists.{at, tabulate, block}
use Rattle.algebra.proofs.Sum.{sum-cong}
use Rattle.algebra.proofs.Lists.{tab-cong}
use Rattle.meaning.specs.Weights.{weight}
use Rattle.meaning.specs.Line.{inverse_sum}
use Rattle.meaning.specs.Plan.{range_of}
use Rattle.meaning.specs.Long.{beyond}
use Rattle.meaning.specs.Answer.{Outcome, accepted}
use Rattle.meaning.specs.Inverse.{rails, inverse_block}
use Rattle.meaning.proofs.Cases.{and_cases}
use Rattle.lfnst.specs.LowFrequency.{low_at}
use Rattle.transform_block.specs.declared.TransformBlock.{TransformBlock}
use Rattle.transform_block.specs.TransformBlock.{is_thin, reach_of, last_of, of_side, side_sum, side_residual, side_block, transform_plan, has_low, read_at, low_numbers, behind_low, transformed, inverted, transform_outcome}
use Rattle.transform_block.specs.Given.{TakenFields, GivenWork}
use Rattle.transform_block.proofs.Taken.{columns-read, rows-read}
use Rattle.narrowing.proofs.Unread.{rails-same, block_same}
use Rattle.transform_block.proofs.Accepted.{transform-accepted, transform-done}

module _ (b : TransformBlock) (c d : List ℤ) (long : length c ≡ length d)
    (same : (x y : ℕ) → x < b.columns → y < b.rows → at c (x + y * b.width) ≡ at d (x + y * b.width)) where
  -- what was accepted of one is accepted of the other
  pub given-same : GivenWork b c → GivenWork b d
  given-same g =
      let t = g.taken in
      record {
        taken = record { width = t.width; pair = t.pair; horizontal = t.horizontal; vertical = t.vertical; along = t.along; down = t.down; depth = t.depth; kept = t.kept; corner = t.corner; low = t.low; long = sym long ∙ t.long };
        inside = λ x y h l. subst (λ (z : ℤ). beyond (range_of (reach_of b)) z ≡ false) (same x y h l) (g.inside x y h l);
      }

  -- one stage: the line of the side that is not 1
  upright : b.width ≡ 1 → 0 < b.columns → (i : ℕ) → i < b.rows → at c i ≡ at d i
  upright e some i h =
      let place : 0 + i * b.width ≡ i = zero-add (i * b.width) ∙ ap (λ (w : ℕ). i * w) e ∙ mul-one i in
      subst (λ (k : ℕ). at c k ≡ at d k) place (same 0 i some h)

  lying : 0 < b.rows → (i : ℕ) → i < b.columns → at c i ≡ at d i
  lying some i h =
      let place : i + 0 * b.width ≡ i = ap (λ (m : ℕ). i + m) (zero-mul b.width) ∙ add-zero i in
      subst (λ (k : ℕ). at c k ≡ at d k) place (same i 0 h some)

  abbrev All : Bool → Type 0
  All u = (i : ℕ) → i < cond u b.rows b.columns → at c i ≡ at d i

  line_same : TakenFields b c → All (eqb b.width 1)
  line_same t = by (ℕ_discrete b.width 1)
    where
      by : Dec (b.width ≡ 1) → All (eqb b.width 1)
      by (yes e) = subst All (sym (eq-eqb b.width 1 e)) (upright e (columns-read b c t).some)
      by (no n) = subst All (sym (ne_eqb b.width 1 n)) (lying (rows-read b c t).some)

  side_same : TakenFields b c → side_block b c ≡ side_block b d
  unfolding side_block side_residual side_sum inverse_sum
  side_same t =
      tab-cong (b.width * b.height) (side_residual b c) (side_residual b d)
      (λ k _. ap (nearest (last_of b))
      (sum-cong (of_side b b.columns b.rows) _ _ (λ i h. ap (λ (z : ℤ). weight (of_side b b.horizontal b.vertical) (of_side b b.width b.height) i k *ℤ z) (line_same t i h))))

  pub transformed-same : TakenFields b c → transformed b c ≡ transformed b d
  transformed-same t = λ i. cond (is_thin b) (accepted 0, side_same t i) (accepted (rails-same (transform_plan b) c d same i), block_same (transform_plan b) c d same i)

  -- LFNST: what is not read counts as 0
  read_same : (x y : ℕ) → read_at b c x y ≡ read_at b d x y
  unfolding read_at
  read_same x y = either (ltb x b.columns && ltb y b.rows) refl
    where
      either : (r : Bool) → ltb x b.columns && ltb y b.rows ≡ r → cond r (at c (x + y * b.width)) (pos 0) ≡ cond r (at d (x + y * b.width)) (pos 0)
      either true e = let p = and_cases (ltb x b.columns) (ltb y b.rows) e in same x y (ltb-true x b.columns p.0) (ltb-true y b.rows p.1)
      either false e = refl

  low_same : low_numbers b c ≡ low_numbers b d
  unfolding low_numbers
  low_same t = block b.width b.height (low_at b.width b.height b.lfnst b.set (eqb b.transposed 1) (reach_of b) (λ x y. read_same x y t))

  inverted-same : TakenFields b c → inverted b c ≡ inverted b d
  inverted-same t = λ i. cond (has_low b) (transformed (behind_low b) (low_same i)) (transformed-same t i)

  pub outcome-same : (transform_outcome b c).0.number ≡ 0 → transform_outcome b c ≡ transform_outcome b d
  outcome-same number =
      let g = transform-accepted b c number in
      transform-done b c g ∙ inverted-same g.taken ∙ sym (transform-done b d (given-same g))
