-- Document 01, "Blocks", "Inverse": both stages of a block of which every row and column is worked, over any numbers.
use Rattle.std.specs.Prelude.{◌≡◌, List, ℕ, ◌+◌, ◌*◌, ℤ}
use Rattle.algebra.specs.Shift.{nearest}
use Rattle.algebra.specs.Lists.{at, block}
use Rattle.meaning.specs.declared.Shape.{Shape}
use Rattle.meaning.specs.Line.{inverse_sum}
use Rattle.meaning.specs.Inverse.{rounded}

-- a shape of n by n
pub record Square (n : ℕ) (sh : Shape) : Type 0 where
  pub width : sh.width ≡ n
  pub height : sh.height ≡ n

-- each column of c through the line of a kind, rounded: "(e+64)>>7"
abbrev pub down_block : ℕ → ℕ → ℕ → List ℤ → List ℤ
down_block kind w h c = block w h (λ x y. rounded (inverse_sum kind h h (λ i. at c (x + i * w)) y))

-- each row of m through the line of a kind, rounded by the last shift
abbrev pub along_block : ℕ → ℕ → ℕ → List ℤ → ℕ → List ℤ
along_block kind w h m last = block w h (λ x y. nearest last (inverse_sum kind w w (λ i. at m (i + y * w)) x))
