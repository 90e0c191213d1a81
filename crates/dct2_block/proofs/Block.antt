-- A block that was taken, both kinds 0: what its stages are asked, and that what they leave is its residuals and no rail. Assumes nothing.
use mathlib.Core.Path.{◌≡◌, refl, sym, ap, ◌∙◌, subst}
use mathlib.Core.Bool.{Bool, true, false}
use mathlib.Core.List.{List}
use Prim.Native.Nat.{ℕ, ◌+◌, ◌*◌, ◌/◌, ◌≤◌, ◌<◌, min}
use native.Mathlib.Nat.{mul_comm, mul-le-mul_right, zero-mul, one-mul}
use native.Mathlib.Omega.{arith}
use borrow.Author.Tests.{ltb-true, ltb-false}
use lib.Dec.{ltb}
use lib.ListN.{length}
use lib.IntN.{ℤ, pos, nat_abs, ◌+ℤ◌, ◌*ℤ◌, +ℤ_idl}
use Rattle.algebra.specs.Sum.{sum}
use Rattle.algebra.specs.Clip.{clip}
use Rattle.algebra.specs.Shift.{nearest}
use Rattle.algebra.specs.Lists.{at, tabulate, block}
use Rattle.algebra.specs.Equal.{eq_z}
use Rattle.algebra.proofs.Clip.{clip-inner}
use Rattle.algebra.proofs.Sum.{sum-cong, zero-sum}
use Rattle.algebra.proofs.Table.{eq→eq_z}
use Rattle.algebra.proofs.Lists.{block_cong, block-ext, tab-at, tab-length, place_in}
use Rattle.meaning.specs.declared.Shape.{Shape}
use Rattle.meaning.specs.Weights.{weight}
use Rattle.meaning.specs.Line.{inverse_sum}
use Rattle.meaning.specs.Plan.{Plan, plan_of, short_range}
use Rattle.meaning.specs.Inverse.{column_sum, rounded, middle, rails, residual, inverse_block}
use Rattle.meaning.proofs.NoRails.{none-counts}
use Rattle.layout.specs.Live.{Clear}
use Rattle.layout.specs.Part.{Part}
use Rattle.layout.proofs.Alive.{column-is, mid, row_is, rails-are}
use Rattle.layout.proofs.Zipping.{size-even}
use Rattle.inverse_stage.specs.Given.{GivenStages}
use Rattle.inverse_stage.proofs.Work.{plan-given, keeps}
use Rattle.kernel_picks.specs.Picks.{is_kernel}
use Rattle.dct2_block.specs.Stages.{middle_of, residual_by, Inner, Asked, whole_of}
use Rattle.dct2_block.specs.Alone.{flat_of}
use Rattle.dct2_block.proofs.Fitting.{whole_in}
use Rattle.dct2_block.proofs.Flat.{first-weight, middle-in, short-same}

module _ {sh : Shape} {rows columns : ℕ} {c r : List ℤ} (g : GivenStages sh rows columns c r) where
  abbrev w : ℕ
  w = sh.width

  abbrev h : ℕ
  h = sh.height

  abbrev p : Plan
  p = plan_of sh

  -- ---- what the stages are asked
  whole-narrow : whole_of w columns ≤ w
  whole-narrow = (whole_in w columns g.block.taken.width g.live.narrow).1.0

  pub asked : {last high wide : ℕ} → (0 < last) × (last ≤ 20) → (is_kernel (min w 8) h high ≡ true) × (rows ≤ high) → (is_kernel (min h 8) w wide ≡ true) × (columns ≤ wide) → (wide + 7) / 8 * h ≤ 128
      → Asked w h last rows columns high wide w c r
  asked few down along room =
      record {
        width = g.block.taken.width;
        height = g.block.taken.height;
        down = down.0;
        low = down.1;
        along = along.0;
        few = along.1;
        room = room;
        any = omega (arith, (size-even columns g.size-columns).0);
        narrow = g.live.narrow;
        there = λ x y a b. omega (arith, g.block.long, mul_comm w h, place_in {x = x} {y = y} {w = w} {h = h} (omega (arith, whole-narrow)) (omega (arith, g.live.low)));
        clear = λ x y a b k. g.live.right x y a (omega (arith, whole-narrow)) (omega (arith, g.live.low));
        out = g.block.room ∙ mul_comm w h;
        some = few.0;
        short = few.1;
      }

  module _ (across : sh.horizontal ≡ 0) (down : sh.vertical ≡ 0) where
    -- the middle values of any part outside of which the block is zero
    module _ (wide high : ℕ) (part : Part w h wide high c) where
      abbrev middles : ℕ → ℕ → ℤ
      middles x y = mid p (keeps (plan-given g)) c wide high part g.kept x y

      middle-so : (x y : ℕ) → x < w → middle_of h w high c x y ≡ middles x y
      unfolding inverse_sum
      middle-so x y a =
          ap (middle short_range) ((λ t. sum high (λ i. weight (sym down t) h i y *ℤ at c (x + i * w))) ∙ column-is p (keeps (plan-given g)) c wide high part g.kept x y a)

      pub residual-so : (x y : ℕ) → residual_by w h p.last w high wide c x y ≡ residual p c x y
      unfolding inverse_sum residual
      residual-so x y =
          ap (nearest p.last) (sum-cong wide _ _ (λ i a. (λ t. weight (sym across t) w i x *ℤ middle-so i y (omega (arith, part.narrow)) t))
          ∙ row_is p (keeps (plan-given g)) c wide high part g.kept x y)

      pub no-rail : ((x y : ℕ) → x < wide → y < h → clip short_range (rounded (column_sum p c x y)) ≡ rounded (column_sum p c x y)) → rails p c ≡ 0
      no-rail u =
          sym (rails-are p (keeps (plan-given g)) c wide high part g.kept)
          ∙ zero-sum h _ (λ y b. zero-sum wide _ (λ x a. none-counts (eq_z (middles x y) (rounded (column_sum p c x y))) (eq→eq_z (middles x y) (rounded (column_sum p c x y)) (u x y a b))))

    -- ---- both stages
    pub worked-block : block w h (residual_by w h p.last w rows columns c) ≡ inverse_block p c
    unfolding inverse_block
    worked-block = block_cong w h _ _ (λ x y _ _. residual-so columns rows g.live x y)

    pub worked-rails : ((x y : ℕ) → x < columns → y < h → Inner (middle_of h w rows c x y)) → rails p c ≡ 0
    worked-rails n =
        no-rail columns rows g.live
        (λ x y a b. let e = middle-so columns rows g.live x y (omega (arith, g.live.narrow)) in
        clip-inner short_range (rounded (column_sum p c x y)) (λ q. (n x y a b).0 (e ∙ q)) (λ q. (n x y a b).1 (e ∙ q)))

    -- ---- one coefficient
    module _ (clear : Clear c 1 (rows * w)) (in-16 : nat_abs (at c 0) ≤ 32768) where
      -- every place but the first has 0
      zero : (x y : ℕ) → x < w → y < h → 1 ≤ x + y * w → at c (x + y * w) ≡ pos 0
      zero x y a b d = by (ltb y rows) refl
        where
          by : (t : Bool) → ltb y rows ≡ t → at c (x + y * w) ≡ pos 0
          by true t = clear (x + y * w) d (place_in {x = x} {y = y} {w = w} {h = rows} a (ltb-true y rows t))
          by false t = g.live.below x y a (ltb-false y rows t) b

      some-place : (x y : ℕ) → 1 ≤ y → 1 ≤ x + y * w
      some-place x y l = omega (arith, mul-le-mul_right w l, one-mul w, (size-even columns g.size-columns).0, g.live.narrow)

      one : Part w h 1 1 c
      one =
          record {
            narrow = omega (arith, (size-even columns g.size-columns).0, g.live.narrow);
            low = omega (arith, (size-even rows g.size-rows).0, g.live.low);
            right = λ x y a b d. zero x y b d (omega arith);
            below = λ x y a b d. zero x y a d (omega (arith, some-place x y b));
          }

      column-one : (y : ℕ) → column_sum p c 0 y ≡ pos 64 *ℤ at c 0
      unfolding sum
      column-one y =
          sym (column-is p (keeps (plan-given g)) c 1 1 one g.kept 0 y (omega (arith, one.narrow))) ∙ +ℤ_idl (weight sh.vertical h 0 y *ℤ at c (0 + 0 * w))
          ∙ (λ t. weight (down t) h 0 y *ℤ at c (0 + zero-mul w t)) ∙ ap (λ (z : ℤ). z *ℤ at c 0) (first-weight h y)

      one-clip : (y : ℕ) → clip short_range (rounded (column_sum p c 0 y)) ≡ rounded (column_sum p c 0 y)
      one-clip y = subst (λ (z : ℤ). clip short_range (rounded z) ≡ rounded z) (sym (column-one y)) (short-same (rounded (pos 64 *ℤ at c 0)) (middle-in (at c 0) in-16))

      flat-clip : (x y : ℕ) → x < 1 → y < h → clip short_range (rounded (column_sum p c x y)) ≡ rounded (column_sum p c x y)
      flat-clip x y a b = let e : 0 ≡ x = omega arith in subst (λ (x : ℕ). clip short_range (rounded (column_sum p c x y)) ≡ rounded (column_sum p c x y)) e (one-clip y)

      flat-residual : (x y : ℕ) → flat_of p.last (at c 0) ≡ residual p c x y
      unfolding residual sum
      flat-residual x y =
          ap (nearest p.last) (sym (+ℤ_idl (pos 64 *ℤ rounded (pos 64 *ℤ at c 0)))
          ∙ (λ t. pos 0 +ℤ sym (first-weight w x) t *ℤ rounded (sym (column-one y) t)) ∙ (λ t. pos 0 +ℤ weight (sym across t) w 0 x *ℤ sym (one-clip y) t) ∙ row_is p (keeps (plan-given g)) c 1 1 one g.kept x y)

      pub flat-rails : rails p c ≡ 0
      flat-rails = no-rail 1 1 one flat-clip

      pub flat_block : {l : List ℤ} → l ≡ tabulate (length r) (λ _. flat_of p.last (at c 0)) → l ≡ inverse_block p c
      unfolding inverse_block
      flat_block {l} e =
          block-ext w h (residual p c) l (ap length e ∙ tab-length (length r) _ ∙ g.block.room ∙ mul_comm w h)
          (λ x y a b. ap (λ (k : List ℤ). at k (x + y * w)) e
          ∙ tab-at (length r) (λ _. flat_of p.last (at c 0)) (x + y * w) (omega (arith, g.block.room, mul_comm w h, place_in {x = x} {y = y} {w = w} {h = h} a b))
          ∙ flat-residual x y)
