-- Rows of a block zipped: document 01's "Place x + y*w is column x, row y" in the order in which lines read their weights.
use Rattle.std.specs.Prelude.{ℕ, ◌+◌, ◌*◌, ◌/◌, ◌%◌, ◌≤◌, ◌<◌, List, length, ℤ}
use Rattle.algebra.specs.Lists.{at}

-- what stands at place q of the row from a on zipped with the one w behind it
abbrev pub zipped_at : List ℤ → ℕ → ℕ → ℕ → ℤ
zipped_at c a w q = at c (a + q % 2 * w + q / 2)

-- 2 * pairs rows of w are there, and room for n columns of them
pub record Rows (pairs n w : ℕ) (c z : List ℤ) : Type 0 where
  pub some : 0 < pairs
  pub wide : 0 < n
  pub narrow : n ≤ w
  pub there : 2 * pairs * w ≤ length c
  pub room : pairs * (2 * n) ≤ length z
