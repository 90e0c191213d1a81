-- What the kernels of DCT-II blocks take and leave. `down` works `wide` columns, 8 or 4, and leaves tiles of `tall` rows, 8 or 4, in
-- which a column's numbers stand side by side: they are turned. `along` works the `tall` rows of such tiles.
use Rattle.std.specs.Prelude.{◌≡◌, List, ℕ, ◌+◌, ◌*◌, ◌/◌, ◌%◌, ◌≤◌, ◌<◌, length, ℤ, nat_abs}
use Rattle.algebra.specs.Lists.{at}
use Rattle.meaning.specs.Line.{inverse_sum}

-- ---- down
-- the first rows of the columns from x0 on are there, at most `live`
pub record Strip (live wide w x0 rows : ℕ) (c : List ℤ) : Type 0 where
  pub few : rows ≤ live
  pub there : (y x : ℕ) → y < rows → x < wide → y * w + x0 + x < length c

-- sum y of column x, over its first rows
unfoldable pub strip_sum : ℕ → ℕ → ℕ → ℕ → List ℤ → ℕ → ℕ → ℤ
strip_sum n w x0 rows c x y = inverse_sum 0 n rows (λ i. at c (x0 + x + i * w)) y

-- where row y of column x stands
abbrev pub turned_place : ℕ → ℕ → ℕ → ℕ → ℕ
turned_place tall wide x y = y / tall * (tall * wide) + tall * x + y % tall

-- m has f x y in row y of column x, of n rows
pub record Turned (tall wide n : ℕ) (f : ℕ → ℕ → ℤ) (m : List ℤ) : Type 0 where
  pub done : (x y : ℕ) → x < wide → y < n → at m (turned_place tall wide x y) ≡ f x y

-- ---- along
-- number i of row l: turned columns of `tall` rows, each group of 8 columns `apart` from the one before it
abbrev pub across : List ℤ → ℕ → ℕ → ℕ → ℕ → ℤ
across m tall apart l i = at m (i / 8 * apart + i % 8 * tall + l)

-- sum j of row l, over its first `live` numbers
unfoldable pub rows_sum : ℕ → ℕ → ℕ → ℕ → List ℤ → ℕ → ℕ → ℤ
rows_sum n live tall apart m j l = inverse_sum 0 n live (across m tall apart l) j

-- the rows of `live` columns are there, and a sum may be rounded
pub record Rowed (live tall apart : ℕ) (half : ℤ) (shift : ℕ) (m : List ℤ) : Type 0 where
  pub there : (i l : ℕ) → i < live → l < tall → i / 8 * apart + i % 8 * tall + l < length m
  pub small : nat_abs half ≤ 1000000
  pub short : shift < 32
