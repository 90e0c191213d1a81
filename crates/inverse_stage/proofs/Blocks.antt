-- A count over all numbers of a block, row by row. Assumes nothing.
use mathlib.Core.Path.{◌≡◌, sym, ap, ◌∙◌}
use Prim.Native.Nat.{ℕ, zero, suc, ◌+◌, ◌*◌}
use native.Mathlib.Nat.{add-zero, add-suc, add_comm, zero-mul, suc-mul}
use native.Mathlib.Omega.{arith}
use lib.IntN.{ℤ}
use lib.ListN.{length}
use Rattle.algebra.specs.Sum.{sumℕ}
use Rattle.algebra.specs.Lists.{at, block}
use Rattle.algebra.proofs.Sum.{sumℕ-cong}
use Rattle.algebra.proofs.Lists.{block_at, block-length}

-- ---- counts
sum-parts : (m n : ℕ) (f : ℕ → ℕ) → sumℕ (m + n) f ≡ sumℕ m f + sumℕ n (λ i. f (i + m))
unfolding sumℕ
sum-parts m zero f = ap (λ (k : ℕ). sumℕ k f) (add-zero m) ∙ sym (add-zero (sumℕ m f))
sum-parts m (suc n) f = ap (λ (k : ℕ). sumℕ k f) (add-suc m n) ∙ omega (arith, sum-parts m n f, ap f (add_comm m n))

-- over all places, row by row
sum_rows : (w h : ℕ) (f : ℕ → ℕ) → sumℕ (h * w) f ≡ sumℕ h (λ y. sumℕ w (λ x. f (x + y * w)))
unfolding sumℕ
sum_rows w zero f = ap (λ (k : ℕ). sumℕ k f) (zero-mul w)
sum_rows w (suc h) f = ap (λ (k : ℕ). sumℕ k f) (suc-mul h w) ∙ sum-parts (h * w) w f ∙ ap (λ (k : ℕ). k + sumℕ w (λ x. f (x + h * w))) (sum_rows w h f)

module _ (w h : ℕ) (f : ℕ → ℕ → ℤ) where
  pub block-count : (g : ℤ → ℕ) → sumℕ (length (block w h f)) (λ k. g (at (block w h f) k)) ≡ sumℕ h (λ y. sumℕ w (λ x. g (f x y)))
  block-count g =
      ap (λ (n : ℕ). sumℕ n (λ k. g (at (block w h f) k))) (block-length w h f)
      ∙ sum_rows w h (λ k. g (at (block w h f) k))
      ∙ sumℕ-cong h _ _ (λ y v. sumℕ-cong w _ _ (λ x l. ap g (block_at w h f x y l v)))
