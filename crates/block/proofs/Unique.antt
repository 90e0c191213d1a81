-- Two outcomes that the contract of a public function allows are equal: what it hands back and what it leaves in each lent
-- buffer follow from its arguments. Assumes nothing.
use mathlib.Core.Path.{◌≡◌}
use mathlib.Core.List.{List}
use lib.IntN.{ℤ}
use Rattle.algebra.proofs.Unique.{one}
use Rattle.meaning.specs.declared.Shape.{Shape}
use Rattle.meaning.specs.Answer.{Outcome}
use Rattle.meaning.specs.Inverse.{inverse_outcome}
use Rattle.meaning.specs.Forward.{forward_outcome}

-- `inverse`
pub inverse-block-one : (sh : Shape) (c out : List ℤ) {o p : Outcome} → o ≡ inverse_outcome sh c out → p ≡ inverse_outcome sh c out → o ≡ p
inverse-block-one sh c out = one

-- `forward`
pub forward-block-one : (sh : Shape) (r out : List ℤ) {o p : Outcome} → o ≡ forward_outcome sh r out → p ≡ forward_outcome sh r out → o ≡ p
forward-block-one sh r out = one
