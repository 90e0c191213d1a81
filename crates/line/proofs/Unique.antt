-- Two outcomes that the contract of a public function allows are equal: what it hands back and what it leaves in each lent
-- buffer follow from its arguments. The fast and the full function of a direction have one contract, so the two
-- outcomes may come from either. Assumes nothing.
use mathlib.Core.Path.{◌≡◌}
use mathlib.Core.List.{List}
use Prim.Native.Nat.{ℕ}
use lib.IntN.{ℤ}
use Rattle.algebra.proofs.Unique.{one}
use Rattle.meaning.specs.Answer.{Outcome, forward_line_outcome, inverse_line_outcome}
use Rattle.line.specs.Line.{weight_or_zero}

-- `weight`
pub weight-one : (kind n i j : ℕ) {r s : ℤ} → r ≡ weight_or_zero kind n i j → s ≡ weight_or_zero kind n i j → r ≡ s
weight-one kind n i j = one

module _ (n kind : ℕ) (x y : List ℤ) {o p : Outcome} where
  -- `forward` and `forward_product`
  pub forward-one : o ≡ forward_line_outcome n kind x y → p ≡ forward_line_outcome n kind x y → o ≡ p
  forward-one = one

  -- `inverse` and `inverse_product`
  pub inverse-one : o ≡ inverse_line_outcome n kind x y → p ≡ inverse_line_outcome n kind x y → o ≡ p
  inverse-one = one

module _ (n kind : ℕ) (x y z : List ℤ) {o p : Outcome × Outcome} where
  -- `forward_both`
  pub forward-both-one : o ≡ (forward_line_outcome n kind x y, forward_line_outcome n kind x z) → p ≡ (forward_line_outcome n kind x y, forward_line_outcome n kind x z) → o ≡ p
  forward-both-one = one

  -- `inverse_both`
  pub inverse-both-one : o ≡ (inverse_line_outcome n kind x y, inverse_line_outcome n kind x z) → p ≡ (inverse_line_outcome n kind x y, inverse_line_outcome n kind x z) → o ≡ p
  inverse-both-one = one
