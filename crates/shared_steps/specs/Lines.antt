-- Document 01, "The weights": "C[i][j] = (-1)^i * S[i][N-1-j]"; document 02, Wish 3: "Forward, read the input backwards and change
-- the signs of the sums; inverse, change the signs as the input is used and write the sums backwards."
use Rattle.std.specs.Prelude.{◌≡◌, Bool, true, cond, ◌&&◌, ◌||◌, List, ℕ, ◌-◌, eqb, length, ℤ}
use Rattle.algebra.specs.Lists.{at}
use Rattle.meaning.specs.Weights.{signed}
use Rattle.shared_steps.specs.Folds.{is_odd}

-- place k of n, counted from the end where asked
abbrev pub turned : Bool → ℕ → ℕ → ℕ
turned back n k = cond back (n - 1 - k) k

-- the sign changed at odd places where asked
abbrev pub alternated : Bool → ℕ → ℤ → ℤ
alternated change k z = signed (change && is_odd k) z

-- input k of a forward line, and input i of an inverse one
abbrev pub reading : Bool → ℕ → List ℤ → ℕ → ℤ
reading back n x k = at x (turned back n k)

abbrev pub used : Bool → List ℤ → ℕ → ℤ
used change x i = alternated change i (at x i)

-- the sizes with shared weights: "The fast path must use these at 4, 16 and 32"
abbrev pub is_shared : ℕ → Bool
is_shared n = eqb n 4 || (eqb n 16 || eqb n 32)

-- "1 (DST-VII) or 2 (DCT-VIII)": the kinds of these rows
abbrev pub is_folded : ℕ → Bool
is_folded kind = eqb kind 1 || eqb kind 2

-- DCT-VIII where the inputs are read backwards, or the sums written so
abbrev pub kind_of : Bool → ℕ
kind_of back = cond {A = ℕ} back 2 1

-- what a line is given
pub record GivenLine (n kind : ℕ) (x y : List ℤ) : Type 0 where
  pub size : is_shared n ≡ true
  pub known : is_folded kind ≡ true
  pub inputs : length x ≡ n
  pub outputs : length y ≡ n
