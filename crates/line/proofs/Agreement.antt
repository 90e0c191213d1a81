-- The fast and the full line of a direction have one contract: on one input, buffers that held the same come back the same,
-- with the same answer. Assumes nothing.
use mathlib.Core.Path.{◌≡◌, sym, ap, ◌∙◌}
use mathlib.Core.List.{List}
use Prim.Native.Nat.{ℕ}
use lib.IntN.{ℤ}
use Rattle.meaning.specs.Answer.{Outcome, forward_line_outcome, inverse_line_outcome}

module _ (n kind : ℕ) (x : List ℤ) {y z : List ℤ} {fast full : Outcome} where
  pub forward-agrees : fast ≡ forward_line_outcome n kind x y → full ≡ forward_line_outcome n kind x z → y ≡ z → fast ≡ full
  forward-agrees p q e = p ∙ ap (forward_line_outcome n kind x) e ∙ sym q

  pub inverse-agrees : fast ≡ inverse_line_outcome n kind x y → full ≡ inverse_line_outcome n kind x z → y ≡ z → fast ≡ full
  inverse-agrees p q e = p ∙ ap (inverse_line_outcome n kind x) e ∙ sym q
