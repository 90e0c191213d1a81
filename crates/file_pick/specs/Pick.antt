-- Document 02, Wish 4: "A support engineer names a block". A block is named by its count among the data fields of a file, the
-- first being 1: as the lines that a run prints are counted.
use Rattle.std.specs.Prelude.{Bool, cond, not, ◌&&◌, ◌||◌, List, ℕ, zero, suc, ◌-◌, eqb, length}
use Rattle.file_fields.specs.declared.cursor.Cursor.{Cursor}
use Rattle.file_fields.specs.Field.{is_data}
use Rattle.file_fields.specs.Cursor.{file_start, advance_of}

-- whether a field with a tag is passed over on the way to the n-th data field from here: one that gives a shape or its kept part
-- is, and so is every data field but the one meant. At the end, and at a field that the reader refuses, the tag is 0
unfoldable pub passes : ℕ → ℕ → Bool
passes tag n = not (eqb tag 0) && (not (is_data tag) || not (eqb n 1))

-- how many data fields are left to count behind it
unfoldable pub left : ℕ → ℕ → ℕ
left tag n = cond (is_data tag) (n - 1) n

-- over at most k fields from a cursor on
unfoldable pub walk : ℕ → List ℕ → ℕ → Cursor → Cursor
walk zero file n cursor = cursor
walk (suc k) file n cursor =
    let advance = advance_of file cursor in
    cond (passes advance.tag n) (walk k file (left advance.tag n) advance.next) cursor

-- a file has no more fields than bytes (proofs/Fuel: any larger number reaches the same)
unfoldable pub picked : List ℕ → ℕ → Cursor
picked file n = walk (length file) file n file_start
