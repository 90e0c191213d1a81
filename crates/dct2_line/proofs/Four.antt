-- 4 points by their halves, each of two numbers: the even half by 64 and 64, the odd one by 83 and 36, which are the weights of 2 points
-- and the odd rows of 4. Assumes nothing.
use mathlib.Core.Path.{◌≡◌, sym, ap, ◌∙◌}
use mathlib.Core.List.{[], ◌∷◌}
use Prim.Native.Nat.{ℕ, zero, suc, ◌+◌, ◌*◌, ◌<◌}
use native.Mathlib.Omega.{arith}
use lib.IntN.{ℤ, pos, negsuc, ◌+ℤ◌, ◌-ℤ◌, ◌*ℤ◌, +ℤ_idl}
use Rattle.algebra.specs.Sum.{sum}
use Rattle.algebra.specs.Lists.{at}
use Rattle.meaning.specs.Weights.{cosines, turn, dct2, weight}
use Rattle.meaning.specs.Line.{inverse_sum, forward_sum}
use Rattle.halves.specs.Halves.{odd, odd_sum, evens, end_sums, end_differences}
use Rattle.halves.proofs.ByHalves.{forward-even, forward-odd}
use Rattle.halves.proofs.Halved.{halves-4}

two : (f : ℕ → ℤ) → f 0 +ℤ f 1 ≡ sum 2 f
unfolding sum
two f = sym (ap (λ (z : ℤ). z +ℤ f 1) (+ℤ_idl (f 0)))

module _ (x : ℕ → ℤ) where
  -- ---- inverse: what two even inputs give, and two odd ones
  pub even-half : {r s : ℤ} → r ≡ pos 64 *ℤ x 0 +ℤ pos 64 *ℤ x 2 → s ≡ pos 64 *ℤ x 0 +ℤ negsuc 63 *ℤ x 2 → (j : ℕ) → j < 2 → at (r ∷ s ∷ []) j ≡ inverse_sum 0 2 2 (evens x) j
  unfolding inverse_sum cosines turn dct2 weight
  even-half p q zero l = p ∙ two (λ i. weight 0 2 i 0 *ℤ x (2 * i))
  even-half p q (suc zero) l = q ∙ two (λ i. weight 0 2 i 1 *ℤ x (2 * i))
  even-half p q (suc (suc j)) l = absurd (omega arith)

  pub odd-half : {r s : ℤ} → r ≡ pos 83 *ℤ x 1 +ℤ pos 36 *ℤ x 3 → s ≡ pos 36 *ℤ x 1 +ℤ negsuc 82 *ℤ x 3 → (j : ℕ) → j < 2 → at (r ∷ s ∷ []) j ≡ odd_sum 4 2 x j
  unfolding odd_sum cosines turn dct2 weight
  odd-half p q zero l = p ∙ two (λ i. odd 4 i 0 *ℤ x (2 * i + 1))
  odd-half p q (suc zero) l = q ∙ two (λ i. odd 4 i 1 *ℤ x (2 * i + 1))
  odd-half p q (suc (suc j)) l = absurd (omega arith)

  -- ---- forward: two sums and two differences
  pub sums_first : pos 64 *ℤ (x 0 +ℤ x 3) +ℤ pos 64 *ℤ (x 1 +ℤ x 2) ≡ forward_sum 0 4 x 0
  unfolding forward_sum cosines turn dct2 weight
  sums_first = two (λ j. weight 0 2 0 j *ℤ end_sums 4 x j) ∙ sym (forward-even halves-4 x 0 (omega arith))

  pub sums-second : pos 64 *ℤ (x 0 +ℤ x 3) +ℤ negsuc 63 *ℤ (x 1 +ℤ x 2) ≡ forward_sum 0 4 x 2
  unfolding forward_sum cosines turn dct2 weight
  sums-second = two (λ j. weight 0 2 1 j *ℤ end_sums 4 x j) ∙ sym (forward-even halves-4 x 1 (omega arith))

  pub differences-first : pos 83 *ℤ (x 0 -ℤ x 3) +ℤ pos 36 *ℤ (x 1 -ℤ x 2) ≡ forward_sum 0 4 x 1
  unfolding forward_sum cosines turn dct2 weight
  differences-first = two (λ j. odd 4 0 j *ℤ end_differences 4 x j) ∙ sym (forward-odd halves-4 x 0 (omega arith))

  pub differences-second : pos 36 *ℤ (x 0 -ℤ x 3) +ℤ negsuc 82 *ℤ (x 1 -ℤ x 2) ≡ forward_sum 0 4 x 3
  unfolding forward_sum cosines turn dct2 weight
  differences-second = two (λ j. odd 4 1 j *ℤ end_differences 4 x j) ∙ sym (forward-odd halves-4 x 1 (omega arith))
