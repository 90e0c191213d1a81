-- Document 02, Wish 9: "for every order of the N products and every 32-bit starting number it ends on the same sums as document 01's
-- line": neither stands in what is handed back, but that the order is refused where it is none.
use Rattle.std.specs.Prelude.{ℕ, not, List, [], ◌∷◌, ◌++◌, length, ℤ}
use Rattle.algebra.specs.Lists.{at}
use Rattle.algebra.specs.Refusals.{Test}
use Rattle.meaning.specs.Line.{forward_line, inverse_line}
use Rattle.meaning.specs.Answer.{Outcome, outcome, accepted, test, line_tests}
use Rattle.wrapping.specs.Order.{is_order}

-- "those of the line, then 21"
abbrev pub wrapped_tests : ℕ → ℕ → ℕ → ℕ → List ℕ → List Test
wrapped_tests n kind input output order = line_tests n kind input output ++ (test (not (is_order n order)) 21 ∷ [])

-- the outcome of a line whose sums are z
abbrev pub wrapped_outcome : ℕ → ℕ → List ℕ → List ℤ → List ℤ → List ℤ → Outcome
wrapped_outcome n kind order x y z = outcome (wrapped_tests n kind (length x) (length y) order) y (accepted 0, z)

abbrev pub forward_wrapped : ℕ → ℕ → List ℕ → List ℤ → List ℤ → Outcome
forward_wrapped n kind order x y = wrapped_outcome n kind order x y (forward_line kind n (at x))

abbrev pub inverse_wrapped : ℕ → ℕ → List ℕ → List ℤ → List ℤ → Outcome
inverse_wrapped n kind order x y = wrapped_outcome n kind order x y (inverse_line kind n n (at x))
