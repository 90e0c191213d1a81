-- What the functions of the stage are given and what they leave: numbers in their range, sums that stay far from 32 bits, and the first
-- columns and rows of a block.
use Rattle.std.specs.Prelude.{◌≡◌, ◌⊎◌, cond, ◌&&◌, List, ℕ, ◌+◌, ◌*◌, ◌≤◌, ◌<◌, ltb, length, ℤ, pos, nat_abs, ◌≤ℤ◌}
use Rattle.algebra.specs.Lists.{at}
use Rattle.meaning.specs.Plan.{range_of}
use Rattle.product.specs.Product.{line_sum}
use Rattle.kernel_steps.specs.Weighed.{Weighed}
use Rattle.lfnst.specs.LowFrequency.{is_wide}

-- what stands in column x of row y of rows of w, of which the first columns and rows are read
abbrev pub corner_at : ℕ → ℕ → ℕ → List ℤ → ℕ → ℕ → ℤ
corner_at w columns rows r x y = cond (ltb x columns && ltb y rows) (at r (x + y * w)) (pos 0)

-- how many columns and rows the stage can write
abbrev pub side_of : ℕ → ℕ → ℕ
side_of width height = cond (is_wide width height) 8 4

-- sixteen numbers of -2^R .. 2^R - 1
pub record Ranged (reach : ℕ) (u : List ℤ) : Type 0 where
  pub long : length u ≡ 16
  pub inside : (k : ℕ) → k < 16 → ((range_of reach).low ≤ℤ at u k) × (at u k ≤ℤ (range_of reach).high)

-- the stage: a matrix that there is, a range of 20 bits or less, room for what is written, and the corner
pub record GivenStage (width height index set reach columns rows : ℕ) (r : List ℤ) : Type 0 where
  pub some : 1 ≤ index
  pub two : index ≤ 2
  pub sets : set ≤ 3
  pub short : reach ≤ 20
  pub most : width ≤ 64
  pub within : side_of width height ≤ width
  pub room : side_of width height * width ≤ length r
  pub inside : (x y : ℕ) → ((range_of reach).low ≤ℤ corner_at width columns rows r x y) × (corner_at width columns rows r x y ≤ℤ (range_of reach).high)

-- the first n columns of the first rows of w hold f
pub record Placed (n rows w : ℕ) (f : ℕ → ℕ → ℤ) (r r₁ : List ℤ) : Type 0 where
  pub long : length r₁ ≡ length r
  pub done : (x y : ℕ) → x < n → y < rows → at r₁ (x + y * w) ≡ f x y

-- the sums of n outputs: 8 or 16 inputs, by weights in the order of lines
pub record GivenSums (n pairs : ℕ) (t u v : List ℤ) : Type 0 where
  pub half : (pairs ≡ 4) ⊎ (pairs ≡ 8)
  pub sizes : (n ≡ 16) ⊎ (n ≡ 48)
  pub room : n ≤ length v
  pub inputs : length u ≡ 16
  pub weighed : Weighed n 8 u t (2 * n)
  pub low : (j : ℕ) → j < n → nat_abs (line_sum u 0 2 t (2 * n) pairs j) ≤ 1000000000
