-- A row of 4 by the weights of kind 0, written out. Assumes nothing.
use native.Mathlib.Omega.{arith}
use mathlib.Core.Path.{◌≡◌, sym, ap, ◌∙◌}
use mathlib.Core.List.{List, [], ◌∷◌}
use Prim.Native.Nat.{ℕ, ◌+◌, ◌*◌, ◌/◌, ◌%◌, ◌<◌}
use lib.IntN.{ℤ, pos, negsuc, ◌+ℤ◌, ◌*ℤ◌}
use Rattle.algebra.specs.Sum.{sum}
use Rattle.algebra.specs.Lists.{at}
use Rattle.algebra.proofs.Normal.{ν, κ, ◌⊕◌, ◌⊗◌, ring! }
use Rattle.meaning.specs.Weights.{cosines, turn, dct2, weight}
use Rattle.meaning.specs.Line.{inverse_sum}
use Rattle.product.specs.Product.{shifted}

-- four inputs by four weights, as they are added up
abbrev pub four_added : (ℕ → ℤ) → ℤ → ℤ → ℤ → ℤ → ℤ
four_added f w0 w1 w2 w3 = (f 2 *ℤ w2 +ℤ f 0 *ℤ w0) +ℤ (f 3 *ℤ w3 +ℤ f 1 *ℤ w1)

-- the weights of each output
module _ (f : ℕ → ℤ) where
  pub output-0 : four_added f (pos 64) (pos 83) (pos 64) (pos 36) ≡ inverse_sum 0 4 4 f 0
  unfolding inverse_sum sum cosines turn dct2 weight
  output-0 =
      ring! (f 0 ∷ f 1 ∷ f 2 ∷ f 3 ∷ []) ((ν 2 ⊗ κ (pos 64) ⊕ ν 0 ⊗ κ (pos 64)) ⊕ (ν 3 ⊗ κ (pos 36) ⊕ ν 1 ⊗ κ (pos 83)))
      (κ (pos 0) ⊕ κ (pos 64) ⊗ ν 0 ⊕ κ (pos 83) ⊗ ν 1 ⊕ κ (pos 64) ⊗ ν 2 ⊕ κ (pos 36) ⊗ ν 3) tt

  pub output-1 : four_added f (pos 64) (pos 36) (negsuc 63) (negsuc 82) ≡ inverse_sum 0 4 4 f 1
  unfolding inverse_sum sum cosines turn dct2 weight
  output-1 =
      ring! (f 0 ∷ f 1 ∷ f 2 ∷ f 3 ∷ []) ((ν 2 ⊗ κ (negsuc 63) ⊕ ν 0 ⊗ κ (pos 64)) ⊕ (ν 3 ⊗ κ (negsuc 82) ⊕ ν 1 ⊗ κ (pos 36)))
      (κ (pos 0) ⊕ κ (pos 64) ⊗ ν 0 ⊕ κ (pos 36) ⊗ ν 1 ⊕ κ (negsuc 63) ⊗ ν 2 ⊕ κ (negsuc 82) ⊗ ν 3) tt

  pub output-2 : four_added f (pos 64) (negsuc 35) (negsuc 63) (pos 83) ≡ inverse_sum 0 4 4 f 2
  unfolding inverse_sum sum cosines turn dct2 weight
  output-2 =
      ring! (f 0 ∷ f 1 ∷ f 2 ∷ f 3 ∷ []) ((ν 2 ⊗ κ (negsuc 63) ⊕ ν 0 ⊗ κ (pos 64)) ⊕ (ν 3 ⊗ κ (pos 83) ⊕ ν 1 ⊗ κ (negsuc 35)))
      (κ (pos 0) ⊕ κ (pos 64) ⊗ ν 0 ⊕ κ (negsuc 35) ⊗ ν 1 ⊕ κ (negsuc 63) ⊗ ν 2 ⊕ κ (pos 83) ⊗ ν 3) tt

  pub output-3 : four_added f (pos 64) (negsuc 82) (pos 64) (negsuc 35) ≡ inverse_sum 0 4 4 f 3
  unfolding inverse_sum sum cosines turn dct2 weight
  output-3 =
      ring! (f 0 ∷ f 1 ∷ f 2 ∷ f 3 ∷ []) ((ν 2 ⊗ κ (pos 64) ⊕ ν 0 ⊗ κ (pos 64)) ⊕ (ν 3 ⊗ κ (negsuc 35) ⊕ ν 1 ⊗ κ (negsuc 82)))
      (κ (pos 0) ⊕ κ (pos 64) ⊗ ν 0 ⊕ κ (negsuc 82) ⊗ ν 1 ⊕ κ (pos 64) ⊗ ν 2 ⊕ κ (negsuc 35) ⊗ ν 3) tt

-- number k of a block of 4 by 4
abbrev pub four_output : List ℤ → ℤ → ℕ → ℕ → ℤ
four_output m half shift k = shifted half shift (inverse_sum 0 4 4 (λ i. at m (i + k / 4 * 4)) (k % 4))

pub output-at : (m : List ℤ) (half : ℤ) (shift x y k : ℕ) → x < 4 → k ≡ 4 * y + x → shifted half shift (inverse_sum 0 4 4 (λ i. at m (i + y * 4)) x) ≡ four_output m half shift k
output-at m half shift x y k h e =
    let q : k / 4 ≡ y = omega arith in
    let r : k % 4 ≡ x = omega arith in
    (λ t. shifted half shift (inverse_sum 0 4 4 (λ i. at m (i + sym q t * 4)) (sym r t)))
