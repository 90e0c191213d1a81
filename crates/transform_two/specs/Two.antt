-- What the stages of a transform block with a side of 2 are given, and its columns of two points.
use Rattle.std.specs.Prelude.{◌≡◌, List, ℕ, ◌+◌, ◌*◌, ◌≤◌, ◌<◌, ℤ, length}
use Rattle.std.specs.Int.{w16}
use Rattle.std.proofs.Common.{SFits}
use Rattle.algebra.specs.Lists.{at}
use Rattle.meaning.specs.Line.{inverse_sum}
use Rattle.meaning.specs.Shape.{most_kept}
use Rattle.meaning.specs.Plan.{Plan}
use Rattle.meaning.specs.Inverse.{rounded}
use Rattle.transform_pairs.specs.Pairs.{GivenPairs}

-- something is read, and no more than a kind has
pub record GivenSides (p : Plan) (c : List ℤ) : Type 0 where
  pub pairs : GivenPairs p c
  pub some : 0 < p.columns
  pub along : p.columns ≤ most_kept p.horizontal p.width
  pub down : p.rows ≤ most_kept p.vertical p.height

-- the rounded sums of the first k columns of two points, which stand in two rows of `step`
pub record Crossed (step k : ℕ) (s e : List ℤ) : Type 0 where
  pub long : length e ≡ 64
  pub done : (x y : ℕ) → x < k → y < 2 → at e (x + y * step) ≡ rounded (inverse_sum 0 2 2 (λ i. at s (x + i * step)) y)

-- a column of rows of two: its first numbers have 16 bits, and there is room for them from o on
pub record GivenColumn (x rows o : ℕ) (c s : List ℤ) : Type 0 where
  pub there : (y : ℕ) → y < rows → 2 * y + x < length c
  pub fits : (y : ℕ) → y < rows → SFits w16 (at c (2 * y + x))
  pub low : rows ≤ 32
  pub near : o ≤ 32
  pub room : length s ≡ 64
