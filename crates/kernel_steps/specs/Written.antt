-- What the steps of a kernel write: one stretch of a list, as many places from both ends of it, or some columns of its rows.
use Rattle.std.specs.Prelude.{◌≡◌, List, ℕ, ◌+◌, ◌*◌, ◌-◌, ◌≤◌, ◌<◌, length, ℤ}
use Rattle.algebra.specs.Lists.{at}
use Rattle.algebra.specs.Shift.{◌>>◌}

-- z over 2^n, rounded down
abbrev pub floor : ℕ → ℤ → ℤ
floor n z = z >> n

-- the n places of `a` from o on hold f 0, .., f (n - 1); all others are as they were
pub record WroteFrom (o n : ℕ) (a a₀ : List ℤ) (f : ℕ → ℤ) : Type 0 where
  pub long : length a ≡ length a₀
  pub done : (k : ℕ) → k < n → at a (o + k) ≡ f k
  pub before : (k : ℕ) → k < o → at a k ≡ at a₀ k
  pub after : (k : ℕ) → o + n ≤ k → at a k ≡ at a₀ k

-- the places from `from` up to `to`, counted from both ends of 2 * h, hold f and g; those before them are as they were
pub record Ends (from to h : ℕ) (f g : ℕ → ℤ) (out out₀ : List ℤ) : Type 0 where
  pub long : length out ≡ length out₀
  pub low : (j : ℕ) → from ≤ j → j < to → at out j ≡ f j
  pub high : (j : ℕ) → from ≤ j → j < to → at out (h + h - 1 - j) ≡ g j
  pub first : (j : ℕ) → j < from → at out j ≡ at out₀ j
  pub last : (j : ℕ) → j < from → at out (h + h - 1 - j) ≡ at out₀ (h + h - 1 - j)

-- columns b up to b + k of the first rows of n hold f; the columns before them are as they were
pub record Spread (k rows b n : ℕ) (f : ℕ → ℕ → ℤ) (r r₀ : List ℤ) : Type 0 where
  pub long : length r ≡ length r₀
  pub done : (j y : ℕ) → j < k → y < rows → at r (b + j + y * n) ≡ f j y
  pub left : (j y : ℕ) → j < b → at r (j + y * n) ≡ at r₀ (j + y * n)
