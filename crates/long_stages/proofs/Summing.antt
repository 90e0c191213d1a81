-- A sum two terms at a time. Assumes nothing.
use native.Mathlib.Omega.{arith}
use mathlib.Core.Path.{◌≡◌, sym, ap, ◌∙◌}
use Prim.Native.Nat.{ℕ, ◌+◌, ◌*◌}
use native.Mathlib.Nat.{add-mul, one-mul}
use mathlib.Core.List.{List}
use lib.IntN.{ℤ, ◌+ℤ◌, ◌*ℤ◌}
use Rattle.algebra.specs.Sum.{sum}
use Rattle.algebra.specs.Lists.{at}
use Rattle.product.specs.Product.{spot}
use Rattle.algebra.proofs.Sum.{sum-next}

pub two-more : (k : ℕ) (f : ℕ → ℤ) → sum (2 * k) f +ℤ f (2 * k) +ℤ f (2 * k + 1) ≡ sum (2 * (k + 1)) f
two-more k f =
    let e : 2 * k + 1 + 1 ≡ 2 * (k + 1) = omega arith in
    sym (ap (λ (m : ℕ). sum m f) (sym e) ∙ sum-next (2 * k + 1) f ∙ ap (λ (z : ℤ). z +ℤ f (2 * k + 1)) (sum-next (2 * k) f))

pub odd-input : (p gap k : ℕ) → p + 2 * k * gap + gap ≡ p + (2 * k + 1) * gap
odd-input p gap k = omega (arith, add-mul (2 * k) 1 gap, one-mul gap)

-- one product of a sum
abbrev pub term : List ℤ → ℕ → ℕ → List ℤ → ℕ → ℕ → ℕ → ℤ
term t o apart v p gap i = at t (o + spot apart i) *ℤ at v (p + i * gap)
