-- Document 02, Wish 14: "sums 64-bit". A sum of a line, two inputs at a time, as weights are stored.
use Rattle.std.specs.Prelude.{List, ℕ, ◌+◌, ◌*◌, ◌≤◌, ◌<◌, length, ℤ, ◌*ℤ◌}
use Rattle.algebra.specs.Sum.{sum}
use Rattle.algebra.specs.Lists.{at}
use Rattle.product.specs.Product.{spot}

-- weights from o on, their pairs `apart` from each other; inputs from p on, each `gap` behind the one before it
unfoldable pub dotted : List ℤ → ℕ → ℕ → List ℤ → ℕ → ℕ → ℕ → ℤ
dotted t o apart v p gap pairs = sum (2 * pairs) (λ i. at t (o + spot apart i) *ℤ at v (p + i * gap))

pub record Dot (t : List ℤ) (o apart : ℕ) (v : List ℤ) (p gap pairs : ℕ) : Type 0 where
  pub few : pairs ≤ 16
  pub held : (k : ℕ) → k < pairs → o + k * apart + 1 < length t
  pub there : (k : ℕ) → k < pairs → p + (2 * k + 1) * gap < length v
