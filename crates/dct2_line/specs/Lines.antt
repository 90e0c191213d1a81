-- What the lines by halves take: stored weights, inputs some places apart, and the sums of either half.
use Rattle.std.specs.Prelude.{◌≡◌, List, ℕ, ◌+◌, ◌*◌, ◌-◌, ◌≤◌, ◌<◌, length, ℤ, nat_abs, ◌+ℤ◌, ◌-ℤ◌}
use Rattle.algebra.specs.Lists.{at}
use Rattle.meaning.specs.Taken.{NoneAbove}
use Rattle.product.specs.Product.{spot}

-- t has h rows of h weights W, two rows zipped, and none is above 90
pub record Half (W : ℕ → ℕ → ℤ) (h : ℕ) (t : List ℤ) : Type 0 where
  pub few : h ≤ 16
  pub light : (i j : ℕ) → nat_abs (W i j) ≤ 90
  pub held : (i j : ℕ) → i < h → j < h → 2 * j + spot (2 * h) i < length t
  pub right : (i j : ℕ) → i < h → j < h → at t (2 * j + spot (2 * h) i) ≡ W i j

-- a row of h weights from o on, none above 90
pub record Row (h o : ℕ) (t : List ℤ) : Type 0 where
  pub held : (j : ℕ) → j < h → 2 * j + o < length t
  pub light : (j : ℕ) → j < h → nat_abs (at t (2 * j + o)) ≤ 90

-- ---- inverse
-- the numbers of x that stand `apart` places apart
abbrev pub strided : List ℤ → ℕ → ℕ → ℤ
strided x apart i = at x (apart * i)

-- n of them are there, each of 16 bits
pub record Inputs (n apart : ℕ) (x : List ℤ) : Type 0 where
  pub there : (i : ℕ) → i < n → apart * i < length x
  pub low : NoneAbove 32768 x

-- sums of h even and h odd inputs, of which any two may be added in 32 bits
pub record HalfSums (h : ℕ) (e o : List ℤ) : Type 0 where
  pub few : h ≤ 16
  pub evens : length e ≡ h
  pub odds : h ≤ length o
  pub even : (j : ℕ) → j < h → nat_abs (at e j) ≤ 1000000000
  pub odd : (j : ℕ) → j < h → nat_abs (at o j) ≤ 1000000000

-- the first `count` places from both ends hold the sums and the differences of e and o
pub record Joined (count h : ℕ) (e o out : List ℤ) : Type 0 where
  pub long : length out ≡ h + h
  pub low : (j : ℕ) → j < count → at out j ≡ at e j +ℤ at o j
  pub high : (j : ℕ) → j < count → at out (h + h - 1 - j) ≡ at e j -ℤ at o j

-- ---- forward
-- n numbers of which n times the largest is at most 32 * 32768, so that no sum leaves 32 bits
pub record SmallLine (n : ℕ) (x : List ℤ) : Type 0 where
  pub some : 1 ≤ n
  pub few : n ≤ 32
  pub long : length x ≡ n
  pub low : (k : ℕ) → n * nat_abs (at x k) ≤ 1048576
