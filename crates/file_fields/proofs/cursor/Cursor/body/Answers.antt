-- The body lies in the file. Assumes nothing.
use Rattle.std.proofs.Common.{◌≡◌, ◌+◌, ◌≤◌, Ok, Some, ap, arith, length, List, ℕ}
use Rattle.file_fields.specs.declared.cursor.Cursor.{Cursor}
use Rattle.file_fields.specs.declared.field.ReadField.{ReadField}
use Rattle.file_fields.specs.Field.{Field}
use Rattle.file_fields.specs.Read.{field_in}
use Rattle.file_fields.specs.Cursor.{found_at}
use Rattle.file_fields.proofs.Found.{body-within}
use Rattle.file_fields.proofs.cursor.Cursor.body.Goals as goal

inside : (file : List ℕ) (k : Cursor) (f : ReadField) → field_in k.at k.shape (Ok (Some f)) ≡ found_at file k → f.start + f.bytes ≤ length file
inside file k f e = omega (arith, body-within file k, ap (λ (x : Field). x.start) e, ap (λ (x : Field). x.bytes) e)

pub overflow_add-result : goal.overflow_add-result
overflow_add-result c =
    let h = inside c.args.file.now c.args.self c.in-Ok-Some.field (rw c.in-Ok-Some.field-0-is at c.in-Ok-Some.ensures) in
    omega arith

pub slice_bounds-result-end : goal.slice_bounds-result-end
slice_bounds-result-end c =
    let h = inside c.args.file.now c.args.self c.in-Ok-Some.field (rw c.in-Ok-Some.field-0-is at c.in-Ok-Some.ensures) in
    omega arith
