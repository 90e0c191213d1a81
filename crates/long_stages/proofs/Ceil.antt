-- How many pairs of rows reach to a place; sizes are even. Assumes nothing.
use native.Mathlib.Omega.{arith}
use mathlib.Core.Path.{◌≡◌, refl, sym, ap, ◌∙◌}
use mathlib.Core.Bool.{true}
use Prim.Native.Nat.{ℕ, ◌+◌, ◌*◌, ◌/◌, ◌%◌, ◌≤◌, ◌<◌, min}
use native.Mathlib.Nat.{add-mul, one-mul, mul_assoc, mul_comm, lt_of_mul-lt-mul_right}
use Rattle.std.proofs.lemmas.Grind.{div_ceil_times}
use Rattle.meaning.specs.Shape.{is_size}
use Rattle.meaning.proofs.Cases.{size-cases}

pub size-even : (n : ℕ) → is_size n ≡ true → 2 * (n / 2) ≡ n
size-even = size-cases (λ n. 2 * (n / 2) ≡ n) refl refl refl refl

-- rounded up
pub ceil : (u m q : ℕ) → 0 < m → u ≤ q * m → (u / m + min 1 (u % m) ≤ q) × (u ≤ (u / m + min 1 (u % m)) * m)
ceil u m q s l =
    let t = div_ceil_times u m s in
    let r : u / m + min 1 (u % m) < q + 1 = lt_of_mul-lt-mul_right m (omega (arith, t.1, add-mul q 1 m, one-mul m)) in
    (omega arith, t.0)

pub twice : (r w : ℕ) → r * (2 * w) ≡ 2 * r * w
twice r w = sym (mul_assoc r 2 w) ∙ ap (λ (k : ℕ). k * w) (mul_comm r 2)
