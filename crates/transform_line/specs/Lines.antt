-- Lines of a transform block with a side of 1 or 2: one or two at a time, of 16-bit numbers, of which the first are read.
use Rattle.std.specs.Prelude.{◌≡◌, true, List, ℕ, ◌+◌, ◌*◌, ◌≤◌, ◌<◌, min, ℤ, pos, length}
use Rattle.std.specs.Int.{w16}
use Rattle.std.proofs.Common.{SFits}
use Rattle.algebra.specs.Lists.{at, block}
use Rattle.meaning.specs.Line.{inverse_sum}
use Rattle.meaning.specs.Shape.{has_line, most_kept}
use Rattle.product.specs.Product.{shifted, Rounding}

-- `count` lines of n points over the first `inputs` numbers of each, rounded; those of line l stand from step * l on
abbrev pub lines_of : ℕ → ℕ → ℕ → ℕ → ℕ → ℤ → ℕ → List ℤ → List ℤ
lines_of kind n inputs count step half shift m = block n count (λ j l. shifted half shift (inverse_sum kind n inputs (λ i. at m (step * l + i)) j))

-- lines of n points, counted to a number that is n, and room for them
pub record GivenLines (n counted count step : ℕ) (half : ℤ) (shift : ℕ) (m out : List ℤ) : Type 0 where
  pub same : counted ≡ n
  pub few : count ≤ 2
  pub near : step ≤ 32
  pub held : length m ≡ 64
  pub rounding : Rounding half shift
  pub room : length out ≡ count * n

-- the first `live` inputs of lines of a kind are read, and those behind them are 0
pub record GivenRun (kind n counted live count step : ℕ) (half : ℤ) (shift : ℕ) (m out : List ℤ) : Type 0 where
  pub given : GivenLines n counted count step half shift m out
  pub line : has_line kind n ≡ true
  pub more : 2 < n
  pub kept : live ≤ most_kept kind n
  pub clear : (i l : ℕ) → live ≤ i → i < min n 32 → l < count → at m (step * l + i) ≡ pos 0

-- rows of two points: the two numbers of row y stand at y * step, and `apart` behind it
abbrev pub two_at : List ℤ → ℕ → ℕ → ℤ → ℕ → ℕ → ℕ → ℤ
two_at z step apart half shift x y = shifted half shift (inverse_sum 0 2 2 (λ i. at z (y * step + i * apart)) x)

pub record GivenTwoPoints (step apart h : ℕ) (half : ℤ) (shift : ℕ) (z out : List ℤ) : Type 0 where
  pub there : (y : ℕ) → y < h → y * step + apart < length z
  pub low : h ≤ 64
  pub rounding : Rounding half shift
  pub room : length out ≡ h * 2

-- one stage: the first `count` numbers have 16 bits
pub record GivenSide (kind n count last : ℕ) (c : List ℤ) : Type 0 where
  pub line : has_line kind n ≡ true
  pub some : 0 < count
  pub kept : count ≤ most_kept kind n
  pub shift : 0 < last
  pub short : last ≤ 20
  pub long : length c ≡ n
  pub fits : (k : ℕ) → k < count → SFits w16 (at c k)
