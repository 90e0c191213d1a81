-- Document 01, "The block file and its program": "A field is a one-byte tag, a two-byte length of the body, and the body. High
-- byte first throughout": what stands at a place of a file, the refusals 14, 8 and 9 left aside.
use Rattle.std.specs.Prelude.{Bool, cond, not, ◌&&◌, ◌||◌, List, [], ◌∷◌, ◌++◌, ℕ, ◌+◌, ◌*◌, eqb, ltb, length, get_or}
use Rattle.algebra.specs.Refusals.{Test, number_of}
use Rattle.meaning.specs.declared.Shape.{Shape}
use Rattle.meaning.specs.Shape.{shape_of, keeping}
use Rattle.meaning.specs.Answer.{test, shape_tests}
use Rattle.file_fields.specs.declared.cursor.Cursor.{Cursor}

-- what stands at a place: the number of the refusal or 0, the tag or 0, where the body starts and how many bytes it has, and the cursor
-- behind it
pub record Field : Type 0 where
  pub number : ℕ
  pub tag : ℕ
  pub start : ℕ
  pub bytes : ℕ
  pub next : Cursor

-- the byte at place k, and 0 past the end
abbrev pub byte_at : List ℕ → ℕ → ℕ
byte_at file k = get_or file k 0

-- the length in the header of the field at a place: "High byte first"
abbrev pub length_at : List ℕ → ℕ → ℕ
length_at file at = byte_at file (at + 1) * 256 + byte_at file (at + 2)

-- where its body starts: "a one-byte tag, a two-byte length of the body, and the body"
abbrev pub body_at : ℕ → ℕ
body_at at = at + 3

-- "width, height, horizontal kind, vertical kind, d", in the body that starts at a place
abbrev pub shape_at : List ℕ → ℕ → Shape
shape_at file start =
    shape_of (byte_at file start) (byte_at file (start + 1)) (byte_at file (start + 2)) (byte_at file (start + 3)) (byte_at file (start + 4))

-- the number with which 1 to 5 and 20 refuse a shape
unfoldable pub shape_number : Shape → ℕ
shape_number shape = number_of (shape_tests shape)

-- "a held shape that 1 to 5 would refuse counts as none"; Wish 8: 20 "counts with 1 to 5"
abbrev pub is_none : Shape → Bool
is_none shape = not (eqb (shape_number shape) 0)

-- "Tag 01, length 5: width, height, horizontal kind, vertical kind, d"
abbrev pub is_shape : ℕ → Bool
is_shape tag = eqb tag 1

-- "Tag 02: coefficients", "Tag 03: residuals"
abbrev pub is_data : ℕ → Bool
is_data tag = eqb tag 2 || eqb tag 3

-- Wish 8: "a new tag 04, length 2, follows tag 01"
abbrev pub is_keeping : ℕ → Bool
is_keeping tag = eqb tag 4

-- what the header decides: "tag (11), 12, 13, data length not 2*w*h (6)"; Wish 8: "12 also for tag 04 with another length, 13 for
-- tag 04 before any tag 01"
abbrev pub header_tests : ℕ → ℕ → Shape → List Test
header_tests tag bytes shape =
    test (not (is_shape tag || (is_keeping tag || is_data tag))) 11
    ∷ test (is_shape tag && not (eqb bytes 5)) 12
    ∷ test (is_keeping tag && not (eqb bytes 2)) 12
    ∷ test ((is_keeping tag || is_data tag) && is_none shape) 13
    ∷ test (is_data tag && not (eqb bytes (2 * (shape.width * shape.height)))) 6
    ∷ []

unfoldable pub header_number : ℕ → ℕ → Shape → ℕ
header_number tag bytes shape = number_of (header_tests tag bytes shape)

-- the shape that holds behind a field: that of a tag 01, or the held one with the "kept columns and kept rows" of a tag 04, which
-- "holds until the next tag 01 or 04"
abbrev pub shape_behind : List ℕ → ℕ → Shape → Shape
shape_behind file at shape =
    cond (is_shape (byte_at file at)) (shape_at file (body_at at))
    (cond (is_keeping (byte_at file at)) (keeping shape (byte_at file (body_at at)) (byte_at file (body_at at + 1))) shape)

-- "header present (10)", what the header decides, "body present (10), then 1 to 5 for tag 01", and 20 for either; the shape behind
-- a data field is the held one, which 13 let pass
abbrev pub field_tests : List ℕ → ℕ → Shape → List Test
field_tests file at shape =
    test (ltb (length file) (body_at at)) 10
    ∷ header_tests (byte_at file at) (length_at file at) shape
    ++ (test (ltb (length file) (body_at at + length_at file at)) 10
    ∷ test (is_none (shape_behind file at shape)) (shape_number (shape_behind file at shape))
    ∷ [])

unfoldable pub field_number : List ℕ → ℕ → Shape → ℕ
field_number file at shape = number_of (field_tests file at shape)

-- "At the end of the file, or at a field it refuses, its place and shape stay and it hands back the empty start of the file"
abbrev pub nothing : ℕ → ℕ → Shape → Field
nothing number at shape = record { number = number; tag = 0; start = 0; bytes = 0; next = record { at = at; shape = shape } }

-- a field that is whole: its body stands behind the three bytes of its header, and the next field behind the body
abbrev pub whole_field : List ℕ → ℕ → Shape → Field
whole_field file at shape =
    record {
      number = 0;
      tag = byte_at file at;
      start = body_at at;
      bytes = length_at file at;
      next = record { at = body_at at + length_at file at; shape = shape_behind file at shape };
    }

-- "A place past the end counts as the end"
unfoldable pub field_at : List ℕ → ℕ → Shape → Field
field_at file at shape =
    cond (not (ltb at (length file))) (nothing 0 at shape)
    (cond (eqb (field_number file at shape) 0) (whole_field file at shape)
    (nothing (field_number file at shape) at shape))
