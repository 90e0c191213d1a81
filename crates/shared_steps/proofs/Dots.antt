-- A short product as a loop makes it: each product is at most 90 * 425984. Assumes nothing.
use mathlib.Core.Path.{◌≡◌, refl}
use mathlib.Core.List.{List}
use Prim.Native.Nat.{ℕ, ◌+◌, ◌*◌, ◌≤◌}
use native.Mathlib.Nat.{mul-le-mul}
use native.Mathlib.Omega.{arith}
use lib.IntN.{ℤ, pos, nat_abs, ◌+ℤ◌, ◌*ℤ◌}
use Rattle.algebra.specs.Sum.{sum}
use Rattle.algebra.specs.Lists.{at}
use Rattle.algebra.proofs.Order.{abs-add, abs-mul}
use Rattle.algebra.proofs.Sum.{sum-next}
use Rattle.meaning.specs.Weights.{S}
use Rattle.shared_steps.specs.Steps.{short_sum}

-- one product more
pub grown : (B : ℕ) (a w x : ℤ) (i : ℕ) → nat_abs a ≤ i * (90 * B) → nat_abs w ≤ 90 → nat_abs x ≤ B → nat_abs (a +ℤ w *ℤ x) ≤ (i + 1) * (90 * B)
grown B a w x i p q r =
    let m : nat_abs w * nat_abs x ≤ 90 * B = mul-le-mul q r in
    omega (arith, abs-add a (w *ℤ x), abs-mul w x)

module _ (n : ℕ) (t : List ℤ) (i : ℕ) where
  pub none_yet : short_sum n 0 t i ≡ pos 0
  unfolding short_sum sum
  none_yet = refl

  pub next : (g : ℕ) → short_sum n (g + 1) t i ≡ short_sum n g t i +ℤ S n i g *ℤ at t g
  unfolding short_sum
  next g = sum-next g (λ g. S n i g *ℤ at t g)
