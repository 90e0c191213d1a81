-- Document 02, Wish 12: "From each place where reading stops, go on to the next offset at which a whole valid shape field is
-- followed by a whole data field of the length it needs." A piece of a file is a field that is read or a stretch that is dropped.
use Rattle.std.specs.Prelude.{Bool, true, cond, ◌&&◌, ◌||◌, List, [], ◌∷◌, ◌++◌, ◌≡◌, ℕ, zero, suc, ◌+◌, ◌-◌, ◌<◌, eqb, ltb, length, take, drop}
use Rattle.file_fields.specs.declared.cursor.Cursor.{Cursor}
use Rattle.file_fields.specs.Field.{is_shape, is_data, is_keeping}
use Rattle.file_fields.specs.Cursor.{file_start, advance_of}
use Rattle.salvage.specs.declared.search.Piece.{Piece}

-- the reader reads a data field, or a tag 04, which belongs to the shape before it, and then a data field. "8 and 9 are not looked
-- for": the reader does not meet them
unfoldable pub data_follows : List ℕ → Cursor → Bool
data_follows file cursor =
    let field = advance_of file cursor in
    is_data field.tag || (is_keeping field.tag && is_data (advance_of file field.next).tag)

-- put at a place with no shape, it reads a tag 01 before them
unfoldable pub goes_on : List ℕ → ℕ → Bool
goes_on file at =
    let shape = advance_of file (record { at = at; shape = file_start.shape }) in
    is_shape shape.tag && data_follows file shape.next

-- the first of the k offsets from `at` on at which reading goes on, or the one behind them
unfoldable pub goes_on_in : ℕ → List ℕ → ℕ → ℕ
goes_on_in zero file at = at
goes_on_in (suc k) file at =
    let later = goes_on_in k file (suc at) in
    cond (goes_on file at) at later

-- "the next offset", or the end of the file
abbrev pub next_after : List ℕ → ℕ → ℕ
next_after file at = goes_on_in (length file - (at + 1)) file (at + 1)

-- whether the reader reads the field at a cursor, and the cursor from which it goes on: the shape that is held behind a dropped
-- stretch gives way to the one that is read there
abbrev pub reads : List ℕ → Cursor → Bool
reads file cursor = eqb (advance_of file cursor).number 0

unfoldable pub onward : List ℕ → Cursor → Cursor
onward file cursor =
    let lost = next_after file cursor.at in
    cond (reads file cursor) (advance_of file cursor).next (record { at = lost; shape = cursor.shape })

abbrev pub piece_at : List ℕ → Cursor → Piece
piece_at file cursor = record { offset = cursor.at; bytes = (onward file cursor).at - cursor.at; kept = reads file cursor }

-- at most k pieces from a cursor on
unfoldable pub pieces_from : ℕ → List ℕ → Cursor → List Piece
pieces_from zero file cursor = []
pieces_from (suc k) file cursor =
    let more = piece_at file cursor ∷ pieces_from k file (onward file cursor) in
    cond (ltb cursor.at (length file)) more []

-- a file has no more pieces than bytes (proofs/Fuel: any larger number gives the same)
unfoldable pub pieces : List ℕ → Cursor → List Piece
pieces file cursor = pieces_from (length file) file cursor

-- what is made of each piece, one after the other
unfoldable pub joined : (Piece → List ℕ) → List Piece → List ℕ
joined of [] = []
joined of (p ∷ ps) = of p ++ joined of ps

-- "a new file of the fields read"
abbrev pub piece_bytes : List ℕ → Piece → List ℕ
piece_bytes file p = take p.bytes (drop p.offset file)

unfoldable pub kept_of : List ℕ → Piece → List ℕ
kept_of file p = cond p.kept (piece_bytes file p) []

abbrev pub written : List ℕ → List ℕ
written file = joined (kept_of file) (pieces file file_start)

-- "list each dropped stretch by offset and length"
unfoldable pub dropped_of : Piece → List ℕ
dropped_of p = cond p.kept [] (p.offset ∷ p.bytes ∷ [])

abbrev pub dropped : List ℕ → List ℕ
dropped file = joined dropped_of (pieces file file_start)

-- "Kept and dropped stretches together cover the file once, in order": each piece has bytes and starts where the last one
-- ended, from one place to another
abbrev pub Covers : ℕ → List Piece → ℕ → Type 0
Covers at [] end = at ≡ end
Covers at (p ∷ ps) end = (p.offset ≡ at) × (0 < p.bytes) × Covers (at + p.bytes) ps end

-- "an undamaged file": the reader meets no refusal in k advances. At the end of the file it stays, with number 0
unfoldable pub reads_all : ℕ → List ℕ → Cursor → Bool
reads_all zero file cursor = true
reads_all (suc k) file cursor = reads file cursor && reads_all k file (advance_of file cursor).next

abbrev pub undamaged : List ℕ → Bool
undamaged file = reads_all (length file) file file_start
