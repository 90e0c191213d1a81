-- Document 01, "The weights" and "Lines": what the public lines share, a weight for any four numbers, and the outcome of a line
-- in either direction.
use Rattle.std.specs.Prelude.{Bool, cond, ◌&&◌, List, ℕ, ltb, ℤ, pos, length}
use Rattle.algebra.specs.Lists.{at}
use Rattle.meaning.specs.Weights.{weight}
use Rattle.meaning.specs.Shape.{is_size, is_kind}
use Rattle.meaning.specs.Answer.{Outcome, outcome, accepted, line_tests}
use Rattle.full_line.specs.Lines.{line_of}

-- row i and column j of a matrix that there is
abbrev pub is_place : ℕ → ℕ → ℕ → ℕ → Bool
is_place kind n i j = is_kind kind && (is_size n && (ltb i n && ltb j n))

-- the weight there, and 0 outside
abbrev pub weight_or_zero : ℕ → ℕ → ℕ → ℕ → ℤ
weight_or_zero kind n i j = cond (is_place kind n i j) (weight kind n i j) (pos 0)

-- forward_line_outcome or inverse_line_outcome
abbrev pub line_outcome : Bool → ℕ → ℕ → List ℤ → List ℤ → Outcome
line_outcome forward n kind x y = outcome (line_tests n kind (length x) (length y)) y (accepted 0, line_of forward kind n (at x))
