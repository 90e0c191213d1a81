-- The weights of a stage in a room that every size shares.
use Rattle.std.specs.Prelude.{◌≡◌, Bool, List, ℕ, ◌*◌, ◌≤◌, ◌<◌, length, ℤ}
use Rattle.algebra.specs.Lists.{at}
use Rattle.product.specs.Product.{Laid}
use Rattle.tables.specs.Term.{term}

-- r, of m numbers, has those of t at its front
pub record Front (m : ℕ) (r t : List ℤ) : Type 0 where
  pub long : length r ≡ m
  pub same : (k : ℕ) → k < m → k < length t → at r k ≡ at t k

-- as many of the inputs' weights in m outputs as there is room for
abbrev pub Weights : ℕ → ℕ → Bool → ℕ → ℕ → List ℤ → Type 0
Weights room m forward kind n r = (pairs : ℕ) → 2 * pairs ≤ n → pairs * (2 * m) ≤ room → Laid m pairs 2 (2 * m) (λ i j. term forward kind n j i) r
