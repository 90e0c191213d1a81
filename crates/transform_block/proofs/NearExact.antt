-- Demand 3 of an accepted transform block. Assumes nothing.
--   transform-demand3:      with two stages and rail count 0, |2^(7+s) · residual − exact| ≤ 64 · (A + 2^s) of every number it leaves
--   transform-demand3-line: with one stage, |2^s · residual − exact sum| ≤ 2^(s−1): the last rounding alone, at most half a level
--   low-demand3:            with LFNST, of the values that its stage gives to the two stages
use native.Mathlib.Omega.{arith}
use mathlib.Core.Path.{◌≡◌, refl, sym, ap, ◌∙◌, subst}
use mathlib.Core.Bool.{true, false, cond}
use mathlib.Core.List.{List}
use Prim.Native.Nat.{ℕ, suc, ◌+◌, ◌*◌, ◌-◌, ◌^◌, ◌≤◌, ◌<◌}
use lib.IntN.{ℤ, pos, nat_abs, ◌-ℤ◌, ◌*ℤ◌}
use Rattle.algebra.specs.Lists.{at}
use Rattle.algebra.specs.Shift.{nearest}
use Rattle.algebra.proofs.Lists.{tab-at}
use Rattle.algebra.proofs.Shift.{shift-near}
use Rattle.meaning.specs.Answer.{Outcome, accepted}
use Rattle.meaning.specs.Inverse.{rails, inverse_block}
use Rattle.meaning.specs.Exact.{exact, weight_sizes}
use Rattle.meaning.proofs.NearExact.{near-block}
use Rattle.transform_block.specs.declared.TransformBlock.{TransformBlock}
use Rattle.transform_block.specs.TransformBlock.{is_on, is_thin, last_of, transform_plan, side_sum, side_residual, side_block, has_low, low_numbers, behind_low, transformed, transform_outcome}
use Rattle.transform_block.specs.Given.{GivenWork}
use Rattle.transform_block.proofs.Taken.{last_one, last-two}
use Rattle.transform_block.proofs.Accepted.{transform-accepted, plain_done, behind-done}
use Rattle.transform_block.proofs.Behind.{behind-given, two-stages}

-- what columns and rows make of numbers that they may be given
module _ (b : TransformBlock) (c : List ℤ) (g : GivenWork b c) (o : Outcome) (done : o ≡ transformed b c) where
  near-two : is_thin b ≡ false → o.0.rails ≡ 0 → (x y : ℕ) → x < b.width → y < b.height
      → nat_abs (pos (2 ^ (7 + last_of b)) *ℤ at o.1 (x + y * b.width) -ℤ exact (transform_plan b) c x y) ≤ 64 * (weight_sizes (transform_plan b) x + 2 ^ last_of b)
  near-two two none x y hx hy =
      let e : o ≡ (accepted (rails (transform_plan b) c), inverse_block (transform_plan b) c) = done ∙ rw two in
      subst (λ (o : Outcome). nat_abs (pos (2 ^ (7 + last_of b)) *ℤ at o.1 (x + y * b.width) -ℤ exact (transform_plan b) c x y) ≤ 64 * (weight_sizes (transform_plan b) x + 2 ^ last_of b)) (sym e)
      (near-block (transform_plan b) c (omega (arith, last-two b c g.taken two)) x y (sym (ap (λ (o : Outcome). o.0.rails) e) ∙ none) hx hy)

  near-one : is_thin b ≡ true → (k : ℕ) → k < b.width * b.height → nat_abs (pos (2 ^ last_of b) *ℤ at o.1 k -ℤ side_sum b c k) ≤ 2 ^ (last_of b - 1)
  unfolding side_block side_residual
  near-one one k h =
      let e : o ≡ (accepted 0, side_block b c) = done ∙ rw one in
      subst (λ (o : Outcome). nat_abs (pos (2 ^ last_of b) *ℤ at o.1 k -ℤ side_sum b c k) ≤ 2 ^ (last_of b - 1)) (sym e)
      (rw (tab-at (b.width * b.height) (side_residual b c) k h) (near (last_of b) (last_of b - 1) (side_sum b c k) (omega (arith, last_one b c g.taken one))))
    where
      near : (s k : ℕ) (z : ℤ) → s ≡ suc k → nat_abs (pos (2 ^ s) *ℤ nearest s z -ℤ z) ≤ 2 ^ k
      near s k z e = subst (λ (s : ℕ). nat_abs (pos (2 ^ s) *ℤ nearest s z -ℤ z) ≤ 2 ^ k) (sym e) (rounding k z)
        where
          rounding : (k : ℕ) (z : ℤ) → nat_abs (pos (2 ^ suc k) *ℤ nearest (suc k) z -ℤ z) ≤ 2 ^ k
          rounding k z =
              let e : suc k - 1 ≡ k = omega arith in
              rw e (shift-near z k)

module _ (b : TransformBlock) (c : List ℤ) (number : (transform_outcome b c).0.number ≡ 0) where
  given : GivenWork b c
  given = transform-accepted b c number

  pub transform-demand3 : has_low b ≡ false → is_thin b ≡ false → (transform_outcome b c).0.rails ≡ 0 → (x y : ℕ) → x < b.width → y < b.height
      → nat_abs (pos (2 ^ (7 + last_of b)) *ℤ at (transform_outcome b c).1 (x + y * b.width) -ℤ exact (transform_plan b) c x y) ≤ 64 * (weight_sizes (transform_plan b) x + 2 ^ last_of b)
  transform-demand3 none = near-two b c given (transform_outcome b c) (plain_done b c given none)

  pub transform-demand3-line : has_low b ≡ false → is_thin b ≡ true → (k : ℕ) → k < b.width * b.height
      → nat_abs (pos (2 ^ last_of b) *ℤ at (transform_outcome b c).1 k -ℤ side_sum b c k) ≤ 2 ^ (last_of b - 1)
  transform-demand3-line none = near-one b c given (transform_outcome b c) (plain_done b c given none)

  -- with LFNST there are two stages, and they run on its values
  pub low-demand3 : has_low b ≡ true → (transform_outcome b c).0.rails ≡ 0 → (x y : ℕ) → x < b.width → y < b.height
      → nat_abs (pos (2 ^ (7 + last_of b)) *ℤ at (transform_outcome b c).1 (x + y * b.width) -ℤ exact (transform_plan (behind_low b)) (low_numbers b c) x y)
      ≤ 64 * (weight_sizes (transform_plan (behind_low b)) x + 2 ^ last_of b)
  unfolding is_thin is_on
  low-demand3 low =
      near-two (behind_low b) (low_numbers b c) (behind-given b c given.taken low) (transform_outcome b c) (behind-done b c given low) (two-stages b c given.taken low)
