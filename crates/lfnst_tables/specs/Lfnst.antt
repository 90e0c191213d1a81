-- The matrices of LFNST: the weight of input i in output j. Sets 0 to 3, in each index 1 and 2; 48 outputs where the matrix is
-- wide, else 16. The numbers are in Lfnst4 and Lfnst8.
use Rattle.std.specs.Prelude.{Bool, cond, [], ℕ, ◌+◌, ◌*◌, ◌-◌, eqb, ℤ, get_or}
use Rattle.algebra.specs.Lists.{at}
use Rattle.lfnst_tables.specs.Lfnst4.{of16}
use Rattle.lfnst_tables.specs.Lfnst8.{of48}

-- row i, column j of a matrix of so many columns
unfoldable pub entry : ℕ → ℕ → ℕ → ℕ → ℤ
entry columns matrix i j = at (get_or (get_or (cond (eqb columns 48) of48 of16) matrix []) i []) j

-- how many values a matrix gives
abbrev pub outputs_of : Bool → ℕ
outputs_of wide = cond wide 48 16

-- where the matrix of a set and an index stands
abbrev pub matrix_of : ℕ → ℕ → ℕ
matrix_of set index = 2 * set + index - 1

abbrev pub lfnst : ℕ → ℕ → Bool → ℕ → ℕ → ℤ
lfnst set index wide = entry (outputs_of wide) (matrix_of set index)
