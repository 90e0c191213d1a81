-- A shape that is not refused: its block has from 16 to 1,024 numbers; and its number as the code computes it. Assumes nothing.
use mathlib.Core.Path.{◌≡◌}
use Prim.Native.Nat.{ℕ, ◌*◌, ◌≤◌}
use native.Mathlib.Nat.{mul-le-mul}
use Rattle.algebra.specs.Refusals.{number_of}
use Rattle.meaning.specs.declared.Shape.{Shape}
use Rattle.meaning.specs.Answer.{shape_tests}
use Rattle.meaning.proofs.Cases.{size-some}
use Rattle.meaning.proofs.AcceptedCalls.{shape-taken, elements-in}
use Rattle.file_fields.specs.Field.{shape_number}

pub shape-range : (sh : Shape) → shape_number sh ≡ 0 → (16 ≤ sh.width * sh.height) × (sh.width * sh.height ≤ 1024)
unfolding shape_number
shape-range sh e =
    let t = shape-taken sh e in
    (mul-le-mul (size-some sh.width t.width) (size-some sh.height t.height), elements-in sh t)

-- what `Shape::refusal` computes
pub shape-number : {r : ℕ} (sh : Shape) → r ≡ number_of (shape_tests sh) → r ≡ shape_number sh
unfolding shape_number
shape-number sh e = e
