-- The two stages of 4 by 4: what the first leaves is the middle values, turned, and the second makes residuals of them. Assumes nothing.
use native.Mathlib.Omega.{arith}
use mathlib.Core.Path.{◌≡◌, sym, ap, ◌∙◌}
use mathlib.Core.List.{List}
use Prim.Native.Nat.{ℕ, ◌+◌, ◌*◌, ◌-◌, ◌^◌, ◌/◌, ◌%◌, ◌<◌}
use native.Mathlib.Nat.{zero-add}
use lib.ListN.{length}
use lib.IntN.{ℤ, pos, negsuc, ◌+ℤ◌, ◌*ℤ◌}
use Rattle.algebra.specs.Clip.{clip}
use Rattle.algebra.specs.Lists.{at, block}
use Rattle.algebra.specs.Shift.{◌>>◌, nearest}
use Rattle.algebra.proofs.Sum.{sum-cong}
use Rattle.algebra.proofs.Lists.{block-ext, block_cong, block_at}
use Rattle.meaning.specs.Weights.{weight}
use Rattle.meaning.specs.Line.{inverse_sum}
use Rattle.meaning.specs.Plan.{short_range}
use Rattle.meaning.specs.Inverse.{middle}
use Rattle.product.specs.Product.{shifted}
use Rattle.kernel_steps.specs.Written.{WroteFrom, floor}
use Rattle.kernel_levels.specs.Kernels.{rows_sum}
use Rattle.kernel_levels.proofs.Across.{tiled}
use Rattle.dct2_block.specs.Stages.{middle_of, residual_by}

-- rows of 4, one after another
pub rows-done : (f : ℕ → ℕ → ℤ) {r r₀ : List ℤ} → length r₀ ≡ 16 → WroteFrom 0 16 r r₀ (tiled 4 f 0) → r ≡ block 4 4 f
rows-done f {r} e w = block-ext 4 4 f r (w.long ∙ e) (λ x y h g. one x y h g)
  where
    one : (x y : ℕ) → x < 4 → y < 4 → at r (x + y * 4) ≡ f x y
    one x y h g =
        let k = x + y * 4 in
        let l : k < 16 = omega arith in
        let p : k % 4 ≡ x = omega arith in
        let q : k / 4 ≡ y = omega arith in
        ap (at r) (sym (zero-add k)) ∙ w.done k l ∙ (λ t. f (0 + p t) (q t)) ∙ ap (λ (i : ℕ). f i y) (zero-add x)

-- no shift
still : (z : ℤ) → z >> 0 ≡ z
still (pos n) = ap pos (omega arith)
still (negsuc n) = ap negsuc (omega arith)

-- number 4x + y of the middle values
module _ (c s m m₀ : List ℤ) (first : s ≡ block 4 4 (λ j l. shifted (pos 64) 0 (rows_sum 4 4 4 0 c j l)))
    (put : WroteFrom 0 16 m m₀ (λ j. clip short_range (floor 7 (at s (0 + j))))) where
  pub middles : (x y : ℕ) → x < 4 → y < 4 → at m (y + x * 4) ≡ middle_of 4 4 4 c x y
  unfolding inverse_sum rows_sum
  middles x y h g =
      let k = y + x * 4 in
      let l : k < 16 = omega arith in
      ap (at m) (sym (zero-add k)) ∙ put.done k l
      ∙ ap (λ (z : ℤ). clip short_range (floor 7 z)) (ap (at s) (zero-add k) ∙ ap (λ (t : List ℤ). at t k) first ∙ block_at 4 4 (λ j l. shifted (pos 64) 0 (rows_sum 4 4 4 0 c j l)) y x g h ∙ still (rows_sum 4 4 4 0 c y x +ℤ pos 64))
      ∙ ap (middle short_range) (sum-cong 4 _ _ (λ i p. ap (λ (z : ℤ). weight 0 4 i y *ℤ z) (ap (at c) (place i x p))))
    where
      place : (i x : ℕ) → i < 4 → i / 8 * 0 + i % 8 * 4 + x ≡ x + i * 4
      place i x p = let a : i % 8 ≡ i = omega arith in omega (arith, a)

  pub residuals : (half : ℤ) (shift : ℕ) (e : List ℤ) → half ≡ pos (2 ^ (shift - 1)) → e ≡ block 4 4 (λ j l. shifted half shift (rows_sum 4 4 4 0 m j l)) → e ≡ block 4 4 (residual_by 4 4 shift 4 4 4 c)
  unfolding inverse_sum rows_sum
  residuals half shift e q second =
      second
      ∙ block_cong 4 4 _ _ (λ j l h g. (λ t. shifted (q t) shift (rows_sum 4 4 4 0 m j l))
      ∙ ap (nearest shift) (sum-cong 4 _ _ (λ i p. ap (λ (z : ℤ). weight 0 4 i j *ℤ z) (ap (at m) (place i l p) ∙ middles i l p g))))
    where
      place : (i l : ℕ) → i < 4 → i / 8 * 0 + i % 8 * 4 + l ≡ l + i * 4
      place i l p = let a : i % 8 ≡ i = omega arith in omega (arith, a)
