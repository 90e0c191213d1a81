-- The sizes of all that is read of a block, added up.
use Rattle.std.specs.Prelude.{List, ℕ, ◌+◌, ◌*◌, ℤ, nat_abs}
use Rattle.algebra.specs.Sum.{sumℕ}
use Rattle.algebra.specs.Lists.{at}

-- the first columns and rows of rows of w
abbrev pub read_sizes : ℕ → ℕ → ℕ → List ℤ → ℕ
read_sizes w columns rows c = sumℕ rows (λ y. sumℕ columns (λ x. nat_abs (at c (x + y * w))))
