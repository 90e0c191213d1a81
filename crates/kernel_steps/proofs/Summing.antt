-- Products by pairs: their sizes, and what the pairs of one output are given. Assumes nothing.
use mathlib.Core.Path.{◌≡◌, sym, subst}
use mathlib.Core.List.{List}
use Prim.Native.Nat.{ℕ, ◌+◌, ◌*◌, ◌≤◌, ◌<◌}
use native.Mathlib.Nat.{le_trans, mul-le-mul}
use native.Mathlib.Omega.{arith}
use lib.ListN.{length}
use lib.IntN.{ℤ, nat_abs, ◌+ℤ◌, ◌*ℤ◌}
use mir.Syntax.{w16, w32}
use mir.Val.{SFits, to_z, of_z}
use mir.ValLaws.{to_z-of_z}
use Rattle.algebra.specs.Sum.{sum}
use Rattle.algebra.specs.Lists.{at}
use Rattle.algebra.proofs.Order.{abs-add, abs-mul, in-fits}
use Rattle.algebra.proofs.Word.{small}
use Rattle.algebra.proofs.Sum.{sum-in}
use Rattle.product.proofs.Summing.{even_place, odd_place}
use Rattle.kernel_steps.specs.Weighed.{heaviest, product_size, pair_size, sum_size, WeighedPairs, Weighed}

pub product-size : (x y : ℤ) → nat_abs x ≤ heaviest → SFits w16 y → nat_abs (x *ℤ y) ≤ product_size
product-size x y h g =
    let q : nat_abs x * nat_abs y ≤ heaviest * 32768 = mul-le-mul h (in-fits g).within in
    omega (arith, abs-mul x y)

-- .. as the code reads them
pub read-size : (x y : ℤ) → nat_abs x ≤ heaviest → SFits w16 y → nat_abs (to_z w16 (of_z w16 x) *ℤ to_z w16 (of_z w16 y)) ≤ product_size
read-size x y h g =
    let e : x *ℤ y ≡ to_z w16 (of_z w16 x) *ℤ to_z w16 (of_z w16 y) = λ t. sym (to_z-of_z w16 x (small {w = w16} {B = heaviest} (omega arith) h)) t *ℤ sym (to_z-of_z w16 y g) t in
    subst (λ (z : ℤ). nat_abs z ≤ product_size) e (product-size x y h g)

pub pair_size_lem : (x y : ℤ) → nat_abs x ≤ product_size → nat_abs y ≤ product_size → nat_abs (x +ℤ y) ≤ pair_size
pair_size_lem x y h g = omega (arith, abs-add x y)

pub small-pair : {z : ℤ} → nat_abs z ≤ pair_size → SFits w32 z
small-pair {z} h = small {w = w32} {B = pair_size} (omega arith) h

pub small-total : (f : ℕ → ℤ) (n : ℕ) → n ≤ 8 → ((k : ℕ) → k < n → nat_abs (f k) ≤ pair_size) → nat_abs (sum n f) ≤ sum_size
small-total f n l h =
    let g : n * pair_size ≤ sum_size = omega arith in
    le_trans (sum-in n f pair_size h) g

pub output-pairs : {a b : List ℤ} {apart n pairs : ℕ} (j : ℕ) → Weighed n pairs a b apart → j < n → WeighedPairs pairs a b (2 * j) apart
output-pairs {a} {b} {apart} {n} {pairs} j q h =
    record {
      few = q.few;
      there = q.there;
      held = λ k l. subst (λ (m : ℕ). m < length b) (odd_place apart k (2 * j)) (q.held (2 * k + 1) j (omega arith) h);
      even = λ k l. subst (λ (m : ℕ). nat_abs (at b m) ≤ heaviest) (even_place apart k (2 * j)) (q.light (2 * k) j (omega arith) h);
      odd = λ k l. subst (λ (m : ℕ). nat_abs (at b m) ≤ heaviest) (odd_place apart k (2 * j)) (q.light (2 * k + 1) j (omega arith) h);
    }
