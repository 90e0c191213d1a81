-- Document 01, "Lines": exact sums, with no shift, over any numbers.
use Rattle.std.specs.Prelude.{List, ℕ, ℤ, ◌*ℤ◌}
use Rattle.algebra.specs.Sum.{sum}
use Rattle.algebra.specs.Lists.{tabulate}
use Rattle.meaning.specs.Weights.{weight}

-- "Forward: y[i] = sum over j of T[i][j]*x[j]"
unfoldable pub forward_sum : ℕ → ℕ → (ℕ → ℤ) → ℕ → ℤ
forward_sum kind n x i = sum n (λ j. weight kind n i j *ℤ x j)

-- "Inverse: z[j] = sum over i of T[i][j]*x[i]", over the first `count` inputs
unfoldable pub inverse_sum : ℕ → ℕ → ℕ → (ℕ → ℤ) → ℕ → ℤ
inverse_sum kind n count x j = sum count (λ i. weight kind n i j *ℤ x i)

unfoldable pub forward_line : ℕ → ℕ → (ℕ → ℤ) → List ℤ
forward_line kind n x = tabulate n (forward_sum kind n x)

unfoldable pub inverse_line : ℕ → ℕ → ℕ → (ℕ → ℤ) → List ℤ
inverse_line kind n count x = tabulate n (inverse_sum kind n count x)
