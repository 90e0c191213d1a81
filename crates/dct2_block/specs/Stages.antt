-- Document 01, "Blocks", "Inverse", both kinds 0, over plain numbers: c has the coefficients, its rows `stride` apart. Only the first
-- `rows` rows and `columns` columns of it are read.
use Rattle.std.specs.Prelude.{◌≡◌, true, cond, List, ℕ, ◌+◌, ◌*◌, ◌/◌, ◌%◌, ◌≤◌, ◌<◌, min, ltb, length, ℤ, pos, nat_abs}
use Rattle.algebra.specs.Shift.{nearest}
use Rattle.algebra.specs.Lists.{at}
use Rattle.meaning.specs.Shape.{is_size}
use Rattle.meaning.specs.Line.{inverse_sum}
use Rattle.meaning.specs.Plan.{short_range}
use Rattle.meaning.specs.Inverse.{middle}
use Rattle.kernel_levels.specs.Kernels.{turned_place}
use Rattle.kernel_picks.specs.Picks.{is_kernel}

-- the middle value in column x of row y
abbrev pub middle_of : ℕ → ℕ → ℕ → List ℤ → ℕ → ℕ → ℤ
middle_of h stride rows c x y = middle short_range (inverse_sum 0 h rows (λ i. at c (x + i * stride)) y)

-- the residual in column x of row y
abbrev pub residual_by : ℕ → ℕ → ℕ → ℕ → ℕ → ℕ → List ℤ → ℕ → ℕ → ℤ
residual_by w h last stride rows columns c x y = nearest last (inverse_sum 0 w columns (λ i. middle_of h stride rows c i y) x)

-- where the middle value in column x of row y stands: strips of `wide` columns, each in tiles of `tall` rows, turned; a strip starts
-- `apart` behind the one before it
abbrev pub place_of : ℕ → ℕ → ℕ → ℕ → ℕ → ℕ
place_of tall wide apart x y = x / 8 * apart + turned_place tall wide (x % 8) y

-- m has f x y there, for the first columns of h rows
pub record Tiles (tall wide apart columns h : ℕ) (f : ℕ → ℕ → ℤ) (m : List ℤ) : Type 0 where
  pub held : (x y : ℕ) → x < columns → y < h → at m (place_of tall wide apart x y) ≡ f x y

-- a middle value that stands at neither end of its range
abbrev pub Inner : ℤ → Type 0
Inner z = (z ≡ short_range.low → ⊥) × (z ≡ short_range.high → ⊥)

-- what the first stage reads: the first columns, in whole strips, and rows of c, by the kernel of `high` live rows
pub record Read (w h stride rows columns high : ℕ) (c : List ℤ) : Type 0 where
  pub width : is_size w ≡ true
  pub kernel : is_kernel (min w 8) h high ≡ true
  pub few : rows ≤ high
  pub some : 0 < columns
  pub narrow : columns ≤ w
  pub strips : columns % min w 8 ≡ 0
  pub there : (x y : ℕ) → x < columns → y < rows → x + y * stride < length c

-- the second stage, by the kernel of `wide` live columns: what it reads of m is there
pub record Across (w h wide : ℕ) (m : List ℤ) : Type 0 where
  pub height : is_size h ≡ true
  pub kernel : is_kernel (min h 8) w wide ≡ true
  pub there : (x y : ℕ) → x < wide → y < h → place_of (min h 8) (min w 8) (min w 8 * h) x y < length m

-- how the last sums are rounded
pub record Rounded (half : ℤ) (shift : ℕ) : Type 0 where
  pub small : nat_abs half ≤ 1000000
  pub short : shift < 32

-- both stages: m is a room of zeros for the middle values, r has room for the residuals
pub record Work (w h shift rows columns high wide stride : ℕ) (c m r : List ℤ) : Type 0 where
  pub read : Read w h stride rows columns high c
  pub across : Across w h wide m
  pub room : columns * h ≤ length m
  pub zeros : (k : ℕ) → at m k ≡ pos 0
  pub out : length r ≡ h * w
  pub some : 0 < shift
  pub short : shift ≤ 20

-- columns, filled up to whole strips
abbrev pub whole_of : ℕ → ℕ → ℕ
whole_of w columns = cond (ltb w 8) w ((columns + 7) / 8 * 8)

-- the same in a room of so many numbers
pub record InRoom (room w h shift rows columns high wide stride : ℕ) (c r : List ℤ) : Type 0 where
  pub read : Read w h stride rows columns high c
  pub height : is_size h ≡ true
  pub kernel : is_kernel (min h 8) w wide ≡ true
  pub strips : columns ≤ (wide + 7) / 8 * 8
  pub enough : 8 * ((wide + 7) / 8 * h) ≤ room
  pub out : length r ≡ h * w
  pub some : 0 < shift
  pub short : shift ≤ 20

-- a block that kernels serve: what is read of c is there, and the columns that fill up the last strip are 0
pub record Asked (w h shift rows columns high wide stride : ℕ) (c r : List ℤ) : Type 0 where
  pub width : is_size w ≡ true
  pub height : is_size h ≡ true
  pub down : is_kernel (min w 8) h high ≡ true
  pub low : rows ≤ high
  pub along : is_kernel (min h 8) w wide ≡ true
  pub few : columns ≤ wide
  pub room : (wide + 7) / 8 * h ≤ 128
  pub any : 0 < columns
  pub narrow : columns ≤ w
  pub there : (x y : ℕ) → x < whole_of w columns → y < rows → x + y * stride < length c
  pub clear : (x y : ℕ) → columns ≤ x → x < whole_of w columns → y < rows → at c (x + y * stride) ≡ pos 0
  pub out : length r ≡ h * w
  pub some : 0 < shift
  pub short : shift ≤ 20
