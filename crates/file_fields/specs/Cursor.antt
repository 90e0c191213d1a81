-- Document 01, "The block file and its program": "The reader moves a place through the file one field at a time, and hands back
-- the body as that stretch of the caller's own bytes".
use Rattle.std.specs.Prelude.{Bool, cond, List, ℕ, ◌+◌, ltb, length, take, drop}
use Rattle.meaning.specs.Shape.{shape_of}
use Rattle.file_fields.specs.declared.cursor.Cursor.{Cursor}
use Rattle.file_fields.specs.declared.cursor.Advance.{Advance}
use Rattle.file_fields.specs.Field.{Field, nothing, field_at}

-- the start of a file; test 1 refuses the shape, so it "counts as none"
abbrev pub file_start : Cursor
file_start = record { at = 0; shape = shape_of 0 0 0 0 0 }

-- "14 file above 65,536 bytes"
abbrev pub too_long : List ℕ → Bool
too_long file = ltb 65536 (length file)

-- "Order: 14; then per field": 14 at any place, also at the end
unfoldable pub found_at : List ℕ → Cursor → Field
found_at file cursor = cond (too_long file) (nothing 14 cursor.at cursor.shape) (field_at file cursor.at cursor.shape)

-- "It hands back a number too: 0 for a field read and at the end"
abbrev pub advance_of : List ℕ → Cursor → Advance
advance_of file cursor =
    let field = found_at file cursor in
    record { number = field.number; tag = field.tag; next = field.next }

-- where the body starts in the file, and how many bytes it has: 0 and 0 where there is none
abbrev pub body_start : List ℕ → Cursor → ℕ
body_start file cursor = (found_at file cursor).start

abbrev pub body_length : List ℕ → Cursor → ℕ
body_length file cursor = (found_at file cursor).bytes

abbrev pub bytes_of : List ℕ → Cursor → List ℕ
bytes_of file cursor = take (body_length file cursor) (drop (body_start file cursor) file)

-- where the body lies in memory, for a file that lies at a block and an offset, and its bytes
abbrev pub body_of : ℕ × ℕ → List ℕ → Cursor → (ℕ × ℕ) × List ℕ
body_of place file cursor = ((place.0, place.1 + body_start file cursor), bytes_of file cursor)
