-- The words of a block's numbers, a step at a time, and their sizes. Assumes nothing.
use mathlib.Core.Path.{◌≡◌, refl, ap}
use Prim.Native.Nat.{ℕ, zero, suc, ◌+◌, ◌*◌, ◌≤◌, ◌<◌, max}
use native.Mathlib.Nat.{mul-le-mul}
use native.Mathlib.Omega.{arith}
use lib.IntN.{ℤ, nat_abs, neg_ℤ, ◌-ℤ◌}
use Rattle.std.specs.Ordering.{ord_max, nat_cmp}
use Rattle.std.proofs.lemmas.Bool.Decides.{nat_tests}
use Rattle.algebra.specs.Sum.{sumℕ}
use Rattle.algebra.proofs.Sum.{sumℕ-mono, sumℕ-const}
use Rattle.algebra.proofs.Order.{abs-add, abs_neg}
use Rattle.forward_and_back.specs.Trip.{greatest}

-- the larger of two, as the library's `max` has it
pub max_is : (a b : ℕ) → ord_max nat_cmp a b ≡ max a b
max_is a b = grind (arith, nat_tests)

-- ---- the largest of the first k, and of one more
pub greatest-none : (f : ℕ → ℕ) → greatest 0 f ≡ 0
unfolding greatest
greatest-none f = refl

pub greatest-next : (k : ℕ) (f : ℕ → ℕ) → greatest (k + 1) f ≡ max (greatest k f) (f k)
unfolding greatest
greatest-next k f = let e : k + 1 ≡ suc k = omega arith in ap (λ (n : ℕ). greatest n f) e

pub greatest-in : (n : ℕ) (f : ℕ → ℕ) (B : ℕ) → ((k : ℕ) → k < n → f k ≤ B) → greatest n f ≤ B
unfolding greatest
greatest-in zero f B h = omega arith
greatest-in (suc n) f B h = omega (arith, greatest-in n f B (λ k l. h k (omega arith)), h n (omega arith))

-- ---- sums of squares
pub sum-none : (f : ℕ → ℕ) → sumℕ 0 f ≡ 0
unfolding sumℕ
sum-none f = refl

pub squares-in : (n : ℕ) (f : ℕ → ℕ) (B : ℕ) → ((k : ℕ) → k < n → f k ≤ B) → sumℕ n (λ k. f k * f k) ≤ n * (B * B)
squares-in n f B h = omega (arith, sumℕ-mono n (λ k. f k * f k) (λ k. B * B) (λ k l. mul-le-mul (h k l) (h k l)), sumℕ-const n (B * B))

-- ---- the size of a difference
pub apart_in : (a b : ℤ) {A B : ℕ} → nat_abs a ≤ A → nat_abs b ≤ B → nat_abs (a -ℤ b) ≤ A + B
apart_in a b h l = omega (arith, abs-add a (neg_ℤ b), abs_neg b, h, l)
