-- Two outcomes that the contract of a public function allows are equal: what it hands back and what it leaves in its output follow
-- from its arguments, and from the starting number nothing does. Assumes nothing.
use Rattle.std.proofs.Common.{◌≡◌, ℕ, List, ℤ}
use Rattle.algebra.proofs.Unique.{one}
use Rattle.meaning.specs.Answer.{Outcome}
use Rattle.wrapping.specs.Outcome.{forward_wrapped, inverse_wrapped}

module _ (n kind : ℕ) (order : List ℕ) (x y : List ℤ) {o p : Outcome} where
  -- `forward`
  pub forward-one : o ≡ forward_wrapped n kind order x y → p ≡ forward_wrapped n kind order x y → o ≡ p
  forward-one = one

  -- `inverse`
  pub inverse-one : o ≡ inverse_wrapped n kind order x y → p ≡ inverse_wrapped n kind order x y → o ≡ p
  inverse-one = one
