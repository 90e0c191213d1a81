-- What the values of a line are made of: 8 or 16 inputs, weights that are small, and room for n values.
use Rattle.std.specs.Prelude.{◌≡◌, ◌⊎◌, List, ℕ, ◌*◌, ◌≤◌, length, ℤ}
use Rattle.kernel_steps.specs.Weighed.{Weighed}

-- of stored weights t
pub record GivenValues (n pairs : ℕ) (t a v : List ℤ) : Type 0 where
  pub half : (pairs ≡ 4) ⊎ (pairs ≡ 8)
  pub weighed : Weighed n pairs a t (2 * n)
  pub room : n ≤ length v

-- of a matrix that is asked for
pub record GivenInputs (n pairs : ℕ) (a v : List ℤ) : Type 0 where
  pub half : (pairs ≡ 4) ⊎ (pairs ≡ 8)
  pub long : length a ≡ 16
  pub room : n ≤ length v
