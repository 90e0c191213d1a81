-- What the stages of a transform block are given, and what they give.
use Rattle.std.specs.Prelude.{◌≡◌, true, cond, List, ℕ, ◌+◌, ◌*◌, ◌≤◌, ◌<◌, min, ltb, ℤ, pos, nat_abs, length}
use Rattle.std.specs.Int.{w32}
use Rattle.std.proofs.Common.{SFits}
use Rattle.algebra.specs.Shift.{nearest}
use Rattle.algebra.specs.Lists.{at, tabulate}
use Rattle.meaning.specs.Weights.{weight}
use Rattle.meaning.specs.Line.{inverse_sum}
use Rattle.meaning.specs.Shape.{has_line}
use Rattle.meaning.specs.Plan.{Plan, range_of}
use Rattle.meaning.specs.Taken.{Sized}
use Rattle.meaning.specs.Inverse.{rails, inverse_block}
use Rattle.product.specs.Product.{Laid}
use Rattle.long_stages.specs.Sums.{dotted}

-- the weights of a line of n points, of as many inputs as there are and at most 32
abbrev pub LineWeights : ℕ → ℕ → List ℤ → Type 0
LineWeights kind n t = (pairs : ℕ) → 2 * pairs ≤ min n 32 → Laid n pairs 2 (2 * n) (λ i j. weight kind n i j) t

-- ---- what is read
-- `count` numbers of a list from o on, as a line of 32 with 0 behind them
unfoldable pub line_from : List ℤ → ℕ → ℕ → List ℤ
line_from c o count = tabulate 32 (λ i. cond (ltb i count) (at c (o + i)) (pos 0))

-- they were written from place p on, and all else is as it was
pub record Copied (c : List ℤ) (o count p : ℕ) (room room₁ : List ℤ) : Type 0 where
  pub long : length room₁ ≡ length room
  pub done : (x : ℕ) → x < count → at room₁ (p + x) ≡ at c (o + x)
  pub before : (k : ℕ) → k < p → at room₁ k ≡ at room k
  pub after : (k : ℕ) → p + count ≤ k → at room₁ k ≡ at room k

-- the first columns and rows of rows of w, in rows of 32, and 0 below them
pub record RoomRead (c : List ℤ) (w columns rows : ℕ) (room : List ℤ) : Type 0 where
  pub long : length room ≡ 1024
  pub inside : (x y : ℕ) → x < columns → y < rows → at room (x + y * 32) ≡ at c (x + y * w)
  pub below : (x y : ℕ) → x < 32 → rows ≤ y → y < 32 → at room (x + y * 32) ≡ pos 0

pub record Readable (w columns rows : ℕ) (c : List ℤ) : Type 0 where
  pub narrow : columns ≤ 32
  pub low : rows ≤ 32
  pub within : columns ≤ w
  pub few : w ≤ 64
  pub there : rows * w ≤ length c

-- ---- the second stage, over rows of middle values, `columns` to a row
abbrev pub residual_at : List ℤ → ℕ → ℕ → ℕ → ℕ → List ℤ → ℕ → ℕ → ℤ
residual_at t w columns pairs last m x y = nearest last (dotted t (2 * x) (2 * w) (line_from m (y * columns) columns) 0 1 pairs)

pub record GivenRows (t : List ℤ) (w h columns pairs last : ℕ) (m : List ℤ) : Type 0 where
  pub wide : w ≤ 64
  pub low : h ≤ 64
  pub narrow : columns ≤ 32
  pub within : columns ≤ w
  pub few : 2 * pairs ≤ 32
  pub some : 0 < last
  pub short : last ≤ 32
  pub room : length m ≡ h * w
  pub held : (x k : ℕ) → x < w → k < pairs → 2 * x + k * (2 * w) + 1 < length t
  pub fits : (x y : ℕ) → x < w → y < h → SFits w32 (residual_at t w columns pairs last m x y)

-- ---- both stages
abbrev pub worked : ℕ → ℕ → ℕ → ℕ → ℕ → ℕ → ℕ → ℕ → Plan
worked width height horizontal vertical columns rows reach last =
    record {
      width = width;
      height = height;
      horizontal = horizontal;
      vertical = vertical;
      columns = columns;
      rows = rows;
      range = range_of reach;
      last = last;
    }

pub record GivenTwo (p : Plan) (reach : ℕ) (c : List ℤ) : Type 0 where
  pub sized : Sized p
  pub columns : p.columns ≤ 32
  pub rows : p.rows ≤ 32
  pub far : reach ≤ 20
  pub some : 4 ≤ p.last
  pub short : p.last ≤ 32
  pub long : length c ≡ p.width * p.height

-- ---- one stage: the first `count` numbers are in -2^20 .. 2^20
abbrev pub rounded_sum : ℕ → ℕ → ℕ → ℕ → List ℤ → ℕ → ℤ
rounded_sum kind n count last c k = nearest last (inverse_sum kind n count (at c) k)

pub record GivenOne (kind n count last : ℕ) (c : List ℤ) : Type 0 where
  pub line : has_line kind n ≡ true
  pub few : count ≤ min n 32
  pub some : 4 ≤ last
  pub short : last ≤ 32
  pub small : (k : ℕ) → k < count → nat_abs (at c k) ≤ 1048576
  pub long : length c ≡ n

-- ---- any block: one stage where a side is 1, the line of the other side; two stages else
pub record Given (width height horizontal vertical columns rows reach last : ℕ) (c : List ℤ) : Type 0 where
  pub upright : width ≡ 1 → GivenOne vertical height rows last c
  pub lying : (width ≡ 1 → ⊥) → height ≡ 1 → GivenOne horizontal width columns last c
  pub two : (width ≡ 1 → ⊥) → (height ≡ 1 → ⊥) → GivenTwo (worked width height horizontal vertical columns rows reach last) reach c

pub record Staged (width height horizontal vertical columns rows reach last : ℕ) (c : List ℤ) (r : ℕ) (out : List ℤ) : Type 0 where
  pub upright : width ≡ 1 → (r ≡ 0) × (out ≡ tabulate height (rounded_sum vertical height rows last c))
  pub lying : (width ≡ 1 → ⊥) → height ≡ 1 → (r ≡ 0) × (out ≡ tabulate width (rounded_sum horizontal width columns last c))
  pub two : (width ≡ 1 → ⊥) → (height ≡ 1 → ⊥)
      → (r ≡ rails (worked width height horizontal vertical columns rows reach last) c) × (out ≡ inverse_block (worked width height horizontal vertical columns rows reach last) c)
