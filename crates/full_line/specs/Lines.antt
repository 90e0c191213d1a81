-- Document 01, "Lines": what a line and a single weight ask for, and what a line leaves.
use Rattle.std.specs.Prelude.{◌≡◌, Bool, true, cond, List, ℕ, ◌<◌, ℤ}
use Rattle.meaning.specs.Line.{forward_line, inverse_line}
use Rattle.meaning.specs.Shape.{is_size}

-- a place of a matrix of n points
pub record Place (n i j : ℕ) : Type 0 where
  pub size : is_size n ≡ true
  pub row : i < n
  pub column : j < n

-- "All N inputs count, also at 32"
abbrev pub line_of : Bool → ℕ → ℕ → (ℕ → ℤ) → List ℤ
line_of forward kind n x = cond forward (forward_line kind n x) (inverse_line kind n n x)
