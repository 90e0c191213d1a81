-- A block of which one coefficient of kind 0 is read: all residuals are one number, and nothing is clipped. Assumes nothing.
use native.Mathlib.Omega.{arith}
use mathlib.Core.Path.{◌≡◌, refl, sym, ap, ◌∙◌, subst}
use mathlib.Core.Bool.{true, false}
use mathlib.Core.List.{List}
use Prim.Native.Nat.{ℕ, ◌+◌, ◌*◌, ◌-◌, ◌^◌, ◌≤◌, ◌<◌}
use native.Mathlib.Nat.{zero-mul, zero-add, mul_comm}
use borrow.Author.Tests.{lt-ltb}
use lib.Dec.{ltb}
use lib.IntN.{ℤ, pos, nat_abs, ◌+ℤ◌, ◌*ℤ◌, +ℤ_idl}
use lib.ListN.{length}
use Rattle.algebra.specs.Sum.{sum}
use Rattle.algebra.specs.Clip.{clip}
use Rattle.algebra.specs.Shift.{nearest}
use Rattle.algebra.specs.Lists.{at, tabulate}
use Rattle.algebra.proofs.Lists.{block-ext, tab-at, tab-length, place_in}
use Rattle.meaning.specs.Weights.{weight}
use Rattle.meaning.specs.Line.{inverse_sum}
use Rattle.meaning.specs.Plan.{Plan, range_of, short_range, reach}
use Rattle.meaning.specs.Answer.{Outcome, accepted}
use Rattle.meaning.specs.Inverse.{column_sum, rounded, middle, middle_at, rails, row_sum, residual, inverse_block}
use Rattle.meaning.proofs.NoRails.{rails-no}
use Rattle.dct2_block.specs.Alone.{flat_of}
use Rattle.dct2_block.proofs.Flat.{first-weight, middle-in, short-same}
use Rattle.transform_block.specs.declared.TransformBlock.{TransformBlock}
use Rattle.transform_block.specs.TransformBlock.{is_on, is_thin, reach_of, last_of, transform_plan, transformed}
use Rattle.transform_block.specs.Given.{GivenWork, Flat}
use Rattle.transform_block.proofs.Taken.{in_reach}

origin : (w : ℕ) → 0 + 0 * w ≡ 0
origin w = zero-add (0 * w) ∙ zero-mul w

-- a line of one input of kind 0
one_input : (kind n count : ℕ) → kind ≡ 0 → count ≡ 1 → (x : ℕ → ℤ) (j : ℕ) → inverse_sum kind n count x j ≡ pos 64 *ℤ x 0
unfolding inverse_sum sum
one_input kind n count k o x j =
    (λ t. sum (o t) (λ i. weight (k t) n i j *ℤ x i)) ∙ +ℤ_idl (weight 0 n 0 j *ℤ x 0) ∙ ap (λ (z : ℤ). z *ℤ x 0) (first-weight n j)

module _ (b : TransformBlock) (c : List ℤ) (g : GivenWork b c) (f : Flat b) where
  abbrev p : Plan
  p = transform_plan b

  abbrev v : ℤ
  v = at c 0

  reach-15 : reach_of b ≡ 15
  unfolding reach
  reach-15 = rw f.off

  -- the coefficient has 16 bits
  pub small : nat_abs v ≤ 32768
  small =
      let i = g.inside 0 0 (omega (arith, f.columns)) (omega (arith, f.rows)) in
      let e = origin b.width in
      let h : nat_abs (at c (0 + 0 * b.width)) ≤ 2 ^ 15 = subst (λ (r : ℕ). nat_abs (at c (0 + 0 * b.width)) ≤ 2 ^ r) reach-15 (in_reach (reach_of b) (at c (0 + 0 * b.width)) i) in
      subst (λ (k : ℕ). nat_abs (at c k) ≤ 32768) e h

  column : (y : ℕ) → column_sum p c 0 y ≡ pos 64 *ℤ v
  unfolding column_sum
  column y = one_input b.vertical b.height b.rows f.vertical f.rows (λ i. at c (0 + i * b.width)) y ∙ ap (λ (k : ℕ). pos 64 *ℤ at c k) (origin b.width)

  -- nothing is clipped
  clipped : clip (range_of (reach_of b)) (rounded (pos 64 *ℤ v)) ≡ rounded (pos 64 *ℤ v)
  unfolding short_range
  clipped = subst (λ (r : ℕ). clip (range_of r) (rounded (pos 64 *ℤ v)) ≡ rounded (pos 64 *ℤ v)) (sym reach-15) (short-same (rounded (pos 64 *ℤ v)) (middle-in v small))

  middle-one : (y : ℕ) → middle_at p c 0 y ≡ rounded (pos 64 *ℤ v)
  unfolding middle_at
  middle-one y = rw (lt-ltb 0 b.columns (omega (arith, f.columns))) (ap (λ (z : ℤ). clip (range_of (reach_of b)) (rounded z)) (column y) ∙ clipped)

  no-rails : rails p c ≡ 0
  no-rails = rails-no p c unaltered
    where
      unaltered : (x y : ℕ) → x < b.columns → y < b.height → middle_at p c x y ≡ rounded (column_sum p c x y)
      unaltered x y h _ =
          let e : 0 ≡ x = omega (arith, f.columns) in
          subst (λ (x : ℕ). middle_at p c x y ≡ rounded (column_sum p c x y)) e (middle-one y ∙ ap rounded (sym (column y)))

  residual-one : (x y : ℕ) → residual p c x y ≡ flat_of (last_of b) v
  unfolding residual row_sum
  residual-one x y =
      ap (nearest (last_of b)) (one_input b.horizontal b.width b.columns f.horizontal f.columns (λ i. middle_at p c i y) x ∙ ap (λ (z : ℤ). pos 64 *ℤ z) (middle-one y))

  pub flat-done : {l : List ℤ} → l ≡ tabulate (length c) (λ _. flat_of (last_of b) v) → ◌≡◌ {A = Outcome} (accepted 0, l) (transformed b c)
  unfolding inverse_block
  flat-done {l} e = (λ i. (accepted (sym no-rails i), all i)) ∙ rw f.two
    where
      turned : length c ≡ b.height * b.width
      turned = g.taken.long ∙ mul_comm b.width b.height

      all : l ≡ inverse_block p c
      all =
          block-ext b.width b.height (residual p c) l (ap length e ∙ tab-length (length c) _ ∙ turned)
          (λ x y h k. ap (λ (m : List ℤ). at m (x + y * b.width)) e ∙ tab-at (length c) (λ _. flat_of (last_of b) v) (x + y * b.width) (omega (arith, turned, place_in {x = x} {y = y} {w = b.width} {h = b.height} h k)) ∙ sym (residual-one x y))
