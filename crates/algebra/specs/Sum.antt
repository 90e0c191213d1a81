-- Document 01, "Lines": "sum over j of". Finite sums by index: f 0 + .. + f (n - 1).
use Rattle.std.specs.Prelude.{ℕ, zero, suc, ◌+◌, ℤ, pos, ◌+ℤ◌}

unfoldable pub sum : ℕ → (ℕ → ℤ) → ℤ
sum zero f = pos 0
sum (suc n) f = sum n f +ℤ f n

unfoldable pub sumℕ : ℕ → (ℕ → ℕ) → ℕ
sumℕ zero f = 0
sumℕ (suc n) f = sumℕ n f + f n
