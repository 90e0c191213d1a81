-- Document 01, "The block file and its program": "At the end of the file, or at a field it refuses, its place and shape stay". What the
-- functions inside hand back of a place, as the field that is found there.
use Rattle.std.specs.Prelude.{ℕ, Option, None, Some, Result, Ok, Err}
use Rattle.meaning.specs.declared.Shape.{Shape}
use Rattle.meaning.specs.declared.refusal.Refusal.{Refusal}
use Rattle.meaning.specs.Refusal.{refusal_number}
use Rattle.file_fields.specs.declared.field.ReadField.{ReadField}
use Rattle.file_fields.specs.Field.{Field, nothing}

abbrev pub field_in : ℕ → Shape → Result (Option ReadField) Refusal → Field
field_in at shape (Ok (Some f)) = record { number = 0; tag = f.tag; start = f.start; bytes = f.bytes; next = f.next }
field_in at shape (Ok None) = nothing 0 at shape
field_in at shape (Err refusal) = nothing (refusal_number refusal) at shape
