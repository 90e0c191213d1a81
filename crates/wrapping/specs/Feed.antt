-- Document 02, Wish 9: "with the products in a given order". The products of a line over its stored weights, and what feeding them
-- asks for and gives.
use Rattle.std.specs.Prelude.{ℕ, ◌+◌, ◌*◌, ◌<◌, ◌≤◌, Bool, List, length, ℤ, ◌*ℤ◌, unsigned_abs}
use Rattle.algebra.specs.Sum.{sum}
use Rattle.algebra.specs.Lists.{at, tabulate}
use Rattle.product.specs.Product.{spot}
use Rattle.tables.specs.Term.{term}
use Rattle.wrapping.specs.Order.{Order}

-- the product of input i in output j
abbrev pub product_at : List ℤ → ℕ → ℕ → List ℤ → ℕ → ℤ
product_at t apart j x i = at t (2 * j + spot apart i) *ℤ at x i

-- n inputs and n outputs: each weight is there and of size at most 91, and the order is one
pub record Feed (n apart : ℕ) (t : List ℤ) (order : List ℕ) : Type 0 where
  pub few : n ≤ 32
  pub held : (i j : ℕ) → i < n → j < n → 2 * j + spot apart i < length t
  pub light : (i j : ℕ) → i < n → j < n → unsigned_abs (at t (2 * j + spot apart i)) ≤ 91
  pub each : Order n order

-- what they come to: the line in either direction, by its terms
abbrev pub line_sums : Bool → ℕ → ℕ → (ℕ → ℤ) → List ℤ
line_sums forward kind n x = tabulate n (λ j. sum n (λ i. term forward kind n j i *ℤ x i))
