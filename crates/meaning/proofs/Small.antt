-- Sizes of what a call is handed: 16-bit numbers, and residuals among which the hunt for refusal 9 found none too large.
use mathlib.Core.Path.{◌≡◌, sym, subst}
use mathlib.Core.Bool.{false}
use mathlib.Core.List.{List, [], ◌∷◌}
use Prim.Native.Nat.{ℕ, zero, suc, ◌+◌, ◌≤◌, ◌<◌, zero-le}
use native.Mathlib.Omega.{arith}
use borrow.Author.Tests.{ltb-false}
use lib.Dec.{ltb}
use lib.IntN.{ℤ, nat_abs}
use lib.ListN.{length}
use Rattle.algebra.specs.Lists.{at, block}
use Rattle.algebra.proofs.Lists.{block_at, block-length, every-place}
use Rattle.algebra.proofs.First.{first-before}
use Rattle.meaning.specs.declared.Shape.{Shape}
use Rattle.meaning.specs.Taken.{NoneAbove}
use Rattle.meaning.specs.Forward.{most_residual, too_large, first_too_large}

-- it is enough to look at the places of a list, since past the end `at` gives 0
pub within-places : (M : ℕ) (l : List ℤ) → ((k : ℕ) → k < length l → nat_abs (at l k) ≤ M) → NoneAbove M l
within-places M [] h k = zero-le
within-places M (z ∷ l) h zero = h zero (omega arith)
within-places M (z ∷ l) h (suc k) = within-places M l (λ i p. h (suc i) (omega arith)) k

-- ---- those of a block
pub block_in : (w h : ℕ) (f : ℕ → ℕ → ℤ) (M : ℕ) → ((x y : ℕ) → x < w → y < h → nat_abs (f x y) ≤ M) → NoneAbove M (block w h f)
block_in w h f M b =
    within-places M (block w h f)
    (λ k l. every-place w h (λ k. nat_abs (at (block w h f) k) ≤ M)
    (λ x y p q. subst (λ (z : ℤ). nat_abs z ≤ M) (sym (block_at w h f x y p q)) (b x y p q)) k (omega (arith, block-length w h f)))

-- "a residual of size above 2^d-1": none
pub none-too-large : (sh : Shape) (r : List ℤ) → ltb (first_too_large sh r) (length r) ≡ false → NoneAbove (most_residual sh) r
none-too-large sh r e =
    within-places (most_residual sh) r
    (λ k h.
    let b : 0 + k < first_too_large sh r = omega (arith, ltb-false (first_too_large sh r) (length r) e) in
    ltb-false (most_residual sh) (nat_abs (at r k)) (first-before (too_large sh) r 0 k h b))
