-- What the steps of a kernel ask of the numbers that they multiply and add: no sum leaves 32 bits.
use Rattle.std.specs.Prelude.{List, ℕ, ◌+◌, ◌*◌, ◌≤◌, ◌<◌, length, ℤ, nat_abs}
use Rattle.algebra.specs.Lists.{at}
use Rattle.product.specs.Product.{spot}

-- no weight is larger: of DCT-II up to 32 points 90, and 91 with 64; of LFNST 121
abbrev pub heaviest : ℕ
heaviest = 121

-- how large a product of a weight and a number of 16 bits, two of them, and eight pairs can be
abbrev pub product_size : ℕ
product_size = 32768 * heaviest

abbrev pub pair_size : ℕ
pair_size = 2 * product_size

abbrev pub sum_size : ℕ
sum_size = 8 * pair_size

-- the pairs of one output, whose weights start at o
pub record WeighedPairs (pairs : ℕ) (a b : List ℤ) (o apart : ℕ) : Type 0 where
  pub few : pairs ≤ 8
  pub there : 2 * pairs ≤ length a
  pub held : (k : ℕ) → k < pairs → o + k * apart + 1 < length b
  pub even : (k : ℕ) → k < pairs → nat_abs (at b (o + k * apart)) ≤ heaviest
  pub odd : (k : ℕ) → k < pairs → nat_abs (at b (o + k * apart + 1)) ≤ heaviest

-- the pairs of the first n outputs
pub record Weighed (n pairs : ℕ) (a b : List ℤ) (apart : ℕ) : Type 0 where
  pub few : pairs ≤ 8
  pub there : 2 * pairs ≤ length a
  pub held : (i j : ℕ) → i < 2 * pairs → j < n → 2 * j + spot apart i < length b
  pub light : (i j : ℕ) → i < 2 * pairs → j < n → nat_abs (at b (2 * j + spot apart i)) ≤ heaviest

-- n numbers of which any two may be added
pub record Small (n : ℕ) (l : List ℤ) : Type 0 where
  pub room : n ≤ length l
  pub low : (j : ℕ) → j < n → nat_abs (at l j) ≤ 1000000000
