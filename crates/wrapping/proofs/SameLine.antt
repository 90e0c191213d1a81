-- "it ends on the same sums as document 01's line": for every order, and whatever the adder held, the outcome is that of the line.
-- Assumes nothing.
use Rattle.std.proofs.Common.{◌≡◌, ℕ, true, List, length, ℤ}
use Rattle.meaning.specs.Answer.{outcome, accepted, line_tests, forward_line_outcome, inverse_line_outcome}
use Rattle.wrapping.specs.Order.{is_order}
use Rattle.wrapping.specs.Outcome.{wrapped_outcome, forward_wrapped, inverse_wrapped}

module _ (n kind : ℕ) (order : List ℕ) (x y : List ℤ) (e : is_order n order ≡ true) where
  same : (z : List ℤ) → wrapped_outcome n kind order x y z ≡ outcome (line_tests n kind (length x) (length y)) y (accepted 0, z)
  same z = rw e

  pub forward-same : forward_wrapped n kind order x y ≡ forward_line_outcome n kind x y
  forward-same = same _

  pub inverse-same : inverse_wrapped n kind order x y ≡ inverse_line_outcome n kind x y
  inverse-same = same _
