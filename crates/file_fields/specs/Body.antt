-- Document 01, "The block file and its program": "data length not 2*w*h (6)". What the body of a data field is to those who read it.
use Rattle.std.specs.Prelude.{◌≡◌, List, ℕ, ◌*◌, length}
use Rattle.meaning.specs.declared.Shape.{Shape}
use Rattle.file_fields.specs.Field.{shape_number}

-- a body that the reader hands back with a shape: two bytes for each number of the block
pub record Fits (shape : Shape) (body : List ℕ) : Type 0 where
  pub held : shape_number shape ≡ 0
  pub long : length body ≡ 2 * (shape.width * shape.height)
