-- Document 01, "Blocks", "Forward (the reference encoder's order)": rows, then columns, and the outcome of a call.
use Rattle.std.specs.Prelude.{Bool, cond, ◌&&◌, List, [], ◌∷◌, ◌++◌, ℕ, ◌+◌, ◌*◌, ◌-◌, ◌^◌, eqb, ltb, ℤ, pos, nat_abs, length}
use Rattle.algebra.specs.Shift.{nearest}
use Rattle.algebra.specs.Lists.{at, block}
use Rattle.algebra.specs.First.{first_at}
use Rattle.algebra.specs.Refusals.{Test}
use Rattle.meaning.specs.declared.Shape.{Shape}
use Rattle.meaning.specs.Line.{forward_sum}
use Rattle.meaning.specs.Answer.{Outcome, outcome, test_at, accepted, shape_tests, length_tests}

-- log2 of a size
abbrev pub log2 : ℕ → ℕ
log2 n = cond (eqb n 4) 2 (cond (eqb n 8) 3 (cond (eqb n 16) 4 5))

-- "p = log2(w)+d-9"
abbrev pub row_shift : Shape → ℕ
row_shift sh = log2 sh.width + sh.depth - 9

-- "q = log2(h)+6"
abbrev pub column_shift : Shape → ℕ
column_shift sh = log2 sh.height + 6

-- "Rows first": the sum in column x of row y
abbrev pub row_stage : Shape → List ℤ → ℕ → ℕ → ℤ
row_stage sh r x y = forward_sum sh.horizontal sh.width (λ j. at r (j + y * sh.width)) x

-- "(y + 2^(p-1)) >> p": the number between the stages
unfoldable pub row_value : Shape → List ℤ → ℕ → ℕ → ℤ
row_value sh r x y = nearest (row_shift sh) (row_stage sh r x y)

-- "Then columns"
abbrev pub column_stage : Shape → List ℤ → ℕ → ℕ → ℤ
column_stage sh r x y = forward_sum sh.vertical sh.height (λ j. row_value sh r x j) y

-- "(y + 2^(q-1)) >> q"
unfoldable pub column_value : Shape → List ℤ → ℕ → ℕ → ℤ
column_value sh r x y = nearest (column_shift sh) (column_stage sh r x y)

-- "Coefficients outside the kept rows and columns are written 0"
unfoldable pub coefficient : Shape → List ℤ → ℕ → ℕ → ℤ
coefficient sh r x y = cond (ltb x sh.columns && ltb y sh.rows) (column_value sh r x y) (pos 0)

unfoldable pub forward_block : Shape → List ℤ → List ℤ
forward_block sh r = block sh.width sh.height (coefficient sh r)

-- "residuals of size at most 2^d-1"
abbrev pub most_residual : Shape → ℕ
most_residual sh = 2 ^ sh.depth - 1

-- "a residual of size above 2^d-1"
abbrev pub too_large : Shape → ℕ → ℤ → Bool
too_large sh k z = ltb (most_residual sh) (nat_abs z)

-- "place of the first"
abbrev pub first_too_large : Shape → List ℤ → ℕ
first_too_large sh r = first_at (too_large sh) 0 r

-- 9, with its place
abbrev pub too_large_test : Shape → List ℤ → Test
too_large_test sh r = test_at (first_too_large sh r) (length r) 9

abbrev pub forward_tests : Shape → List ℤ → List ℤ → List Test
forward_tests sh r out =
    shape_tests sh ++ length_tests (sh.width * sh.height) (length r) (length out) ++ (too_large_test sh r ∷ [])

-- "Rail count 0"
abbrev pub forward_outcome : Shape → List ℤ → List ℤ → Outcome
forward_outcome sh r out = outcome (forward_tests sh r out) out (accepted 0, forward_block sh r)
