-- Document 01, "Lines": "sum over i of T[i][j]*x[i]", two inputs at a time. Inputs 2k and 2k + 1 stand side by side, and so do
-- their weights in each output: output j is nearest(shift, the sum over i of a[i]*B[i][j]).
use Rattle.std.specs.Prelude.{◌≡◌, ◌⊎◌, List, ℕ, ◌+◌, ◌*◌, ◌/◌, ◌%◌, ◌≤◌, ◌<◌, length, ℤ, nat_abs, ◌+ℤ◌, ◌*ℤ◌}
use Rattle.algebra.specs.Sum.{sum}
use Rattle.algebra.specs.Shift.{◌>>◌}
use Rattle.algebra.specs.Lists.{at}

-- where number i of a row of pairs stands, a pair `gap` behind the one before it
abbrev pub spot : ℕ → ℕ → ℕ
spot gap i = i / 2 * gap + i % 2

-- a list has the numbers X of 2 * pairs inputs, for each of n lines or outputs: those of line j stand from step * j on
pub record Laid (n pairs step gap : ℕ) (X : ℕ → ℕ → ℤ) (t : List ℤ) : Type 0 where
  pub held : (i j : ℕ) → i < 2 * pairs → j < n → step * j + spot gap i < length t
  pub right : (i j : ℕ) → i < 2 * pairs → j < n → at t (step * j + spot gap i) ≡ X i j

-- output j of the line whose inputs stand from p on, their pairs `gap` apart; the weights of output j stand from 2 * j on, their
-- pairs `apart` from each other
unfoldable pub line_sum : List ℤ → ℕ → ℕ → List ℤ → ℕ → ℕ → ℕ → ℤ
line_sum a p gap b apart pairs j = sum (2 * pairs) (λ i. at a (p + spot gap i) *ℤ at b (2 * j + spot apart i))

-- (z + half) >> shift: `nearest shift z` where half is 2^(shift - 1), and z itself where both are 0
abbrev pub shifted : ℤ → ℕ → ℤ → ℤ
shifted half shift z = (z +ℤ half) >> shift

-- pair k as it is computed: the odd input first
abbrev pub pair_at : List ℤ → ℕ → ℕ → List ℤ → ℕ → ℕ → ℕ → ℤ
pair_at a p gap b o apart k = at b (o + k * apart + 1) *ℤ at a (p + k * gap + 1) +ℤ at b (o + k * apart) *ℤ at a (p + k * gap)

-- either is a weight, of size at most 91, as 64 points have it
abbrev pub Light : ℤ → ℤ → Type 0
Light x y = (nat_abs x ≤ 91) ⊎ (nat_abs y ≤ 91)

-- the pairs of one output, whose weights start at o
pub record Column (pairs : ℕ) (a : List ℤ) (p gap : ℕ) (b : List ℤ) (o apart : ℕ) : Type 0 where
  pub few : pairs ≤ 16
  pub there : (k : ℕ) → k < pairs → p + k * gap + 1 < length a
  pub held : (k : ℕ) → k < pairs → o + k * apart + 1 < length b
  pub even : (k : ℕ) → k < pairs → Light (at b (o + k * apart)) (at a (p + k * gap))
  pub odd : (k : ℕ) → k < pairs → Light (at b (o + k * apart + 1)) (at a (p + k * gap + 1))

-- how a sum is rounded: it stays in 32 bits
pub record Rounding (half : ℤ) (shift : ℕ) : Type 0 where
  pub small : nat_abs half ≤ 1000000000
  pub short : shift < 32

-- a line of n outputs
pub record Line (n pairs : ℕ) (a : List ℤ) (p gap : ℕ) (b : List ℤ) (apart : ℕ) : Type 0 where
  pub few : pairs ≤ 16
  pub there : (i : ℕ) → i < 2 * pairs → p + spot gap i < length a
  pub held : (i j : ℕ) → i < 2 * pairs → j < n → 2 * j + spot apart i < length b
  pub light : (i j : ℕ) → i < 2 * pairs → j < n → Light (at b (2 * j + spot apart i)) (at a (p + spot gap i))

-- lines of n outputs each, line l's inputs from step * l on
pub record Lines (lines n pairs : ℕ) (a : List ℤ) (step gap : ℕ) (b : List ℤ) (apart : ℕ) : Type 0 where
  pub some : 0 < pairs
  pub each : (l : ℕ) → l < lines → Line n pairs a (step * l) gap b apart
