-- Half of a body's bytes is the count of its numbers. Assumes nothing.
use mathlib.Core.Path.{◌≡◌, ap, ◌∙◌}
use mathlib.Core.List.{List, [], ◌∷◌, ◌++◌}
use Prim.Native.Nat.{ℕ, zero, suc, ◌+◌, ◌*◌, ◌-◌, ◌/◌}
use native.Mathlib.Omega.{arith}
use lib.IntN.{ℤ}
use lib.ListN.{length, take}
use Rattle.algebra.proofs.Lists.{part_same}
use Rattle.file_numbers.specs.Numbers.{numbers}

-- two bytes for each number
numbers-long : (b : List ℕ) (n : ℕ) → length b ≡ n + n → length (numbers b) ≡ n
numbers-long [] n e = omega (arith, e)
numbers-long (x ∷ []) n e = absurd (omega (arith, e))
numbers-long (x ∷ y ∷ b) zero e = absurd (omega (arith, e))
numbers-long (x ∷ y ∷ b) (suc n) e = ap suc (numbers-long b n (omega (arith, e)))

pub half-long : (n : ℕ) (body : List ℕ) → length body ≡ 2 * n → length (numbers body) ≡ length body / 2
half-long n body e = numbers-long body (length body / 2) (omega (arith, e))

-- the front of a buffer that was filled with a body's numbers
pub read-front : (n : ℕ) (body : List ℕ) (l r : List ℤ) → length body ≡ 2 * n → l ≡ numbers body → take (length body / 2) (l ++ r) ≡ numbers body
read-front n body l r h e =
    let z : length body / 2 - 0 ≡ length body / 2 = omega arith in
    rw z at (part_same (length body / 2) l r (ap length e ∙ half-long n body h) ∙ e)
