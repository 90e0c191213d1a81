-- Document 01, "Blocks", "Small blocks by value": the lent form's outcome of the lines one after the other, with sixteen zeros
-- for its output.
use Rattle.std.specs.Prelude.{List, ℕ, ℤ, pos}
use Rattle.algebra.specs.Lists.{tabulate, flat}
use Rattle.meaning.specs.declared.Shape.{Shape}
use Rattle.meaning.specs.Shape.{shape_of}
use Rattle.meaning.specs.Answer.{Outcome}
use Rattle.meaning.specs.Forward.{forward_outcome}
use Rattle.meaning.specs.Inverse.{inverse_outcome}

-- "A 4 by 4 block"; Wish 8: "A block by value keeps all four", the most of four
abbrev pub small_shape : ℕ → ℕ → ℕ → Shape
small_shape horizontal vertical depth = shape_of 4 4 horizontal vertical depth

-- "handing back sixteen zeros"
abbrev pub zeros : List ℤ
zeros = tabulate 16 (λ _. pos 0)

abbrev pub small_forward : List (List ℤ) → ℕ → ℕ → ℕ → Outcome
small_forward block horizontal vertical depth = forward_outcome (small_shape horizontal vertical depth) (flat block) zeros

abbrev pub small_inverse : List (List ℤ) → ℕ → ℕ → ℕ → Outcome
small_inverse block horizontal vertical depth = inverse_outcome (small_shape horizontal vertical depth) (flat block) zeros
