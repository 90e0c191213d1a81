-- Document 02, Wish 1: kind 0 "by its even and odd halves". What lets a line of n points be worked by its halves, and the halves.
use Rattle.std.specs.Prelude.{◌≡◌, ℕ, ◌+◌, ◌*◌, ◌-◌, ◌<◌, ℤ, neg_ℤ, ◌+ℤ◌, ◌-ℤ◌, ◌*ℤ◌}
use Rattle.algebra.specs.Sum.{sum}
use Rattle.meaning.specs.Weights.{weight}

-- the weights of n points by those of h: even rows are the rows of h points and repeat backwards, odd rows change their sign
pub record Halves (n h : ℕ) : Type 0 where
  pub doubled : n ≡ h + h
  pub even : (i j : ℕ) → i < h → j < h → weight 0 n (2 * i) j ≡ weight 0 h i j
  pub mirrored : (i j : ℕ) → i < h → j < h → weight 0 n (2 * i) (n - 1 - j) ≡ weight 0 n (2 * i) j
  pub turned : (i j : ℕ) → i < h → j < h → weight 0 n (2 * i + 1) (n - 1 - j) ≡ neg_ℤ (weight 0 n (2 * i + 1) j)

-- the odd rows
abbrev pub odd : ℕ → ℕ → ℕ → ℤ
odd n i j = weight 0 n (2 * i + 1) j

-- inverse: the even inputs, and what the odd ones among the first 2 * count give
abbrev pub evens : (ℕ → ℤ) → ℕ → ℤ
evens x i = x (2 * i)

unfoldable pub odd_sum : ℕ → ℕ → (ℕ → ℤ) → ℕ → ℤ
odd_sum n count x j = sum count (λ i. odd n i j *ℤ x (2 * i + 1))

-- forward: x[j] + x[n-1-j] and x[j] - x[n-1-j]
abbrev pub end_sums : ℕ → (ℕ → ℤ) → ℕ → ℤ
end_sums n x j = x j +ℤ x (n - 1 - j)

abbrev pub end_differences : ℕ → (ℕ → ℤ) → ℕ → ℤ
end_differences n x j = x j -ℤ x (n - 1 - j)
