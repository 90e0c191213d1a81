-- Document 01, "The weights": "The 1,024 weights of the 32-point DST-VII are stored whole". What a stored table holds.
use Rattle.std.specs.Prelude.{◌≡◌, List, ℕ, ◌+◌, ◌*◌, ◌<◌, length, ℤ}
use Rattle.algebra.specs.Lists.{at}
use Rattle.meaning.specs.Weights.{S}

-- the DST-VII weights of n points, row by row
pub record Table (n : ℕ) (t : List ℤ) : Type 0 where
  pub long : length t ≡ n * n
  pub right : (i j : ℕ) → i < n → j < n → at t (i * n + j) ≡ S n i j
