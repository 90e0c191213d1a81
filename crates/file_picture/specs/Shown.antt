-- Document 02, Wish 11: "People want to look at a residual block in a picture viewer". The picture of a block of a file: of an
-- inverse its residuals, of a forward the residuals given.
use Rattle.std.specs.Prelude.{cond, List, ℕ, eqb, ℤ}
use Rattle.meaning.specs.declared.Shape.{Shape}
use Rattle.meaning.specs.Inverse.{inverse_outcome}
use Rattle.file_fields.specs.Cursor.{advance_of, bytes_of}
use Rattle.file_numbers.specs.Numbers.{numbers}
use Rattle.file_run.specs.Run.{blank}
use Rattle.file_pick.specs.Pick.{picked}
use Rattle.picture.specs.Outcomes.{write_outcome}
use Rattle.file_picture.specs.declared.shown.View.{View}

abbrev pub refused_at : ℕ → ℕ → View
refused_at number offset = record { number = number; offset = offset; bytes = 0 }

-- residuals that stand in a block of a shape: 23 refuses those that a picture cannot hold, 7 an output that is too short
abbrev pub drawn_at : Shape → List ℤ → ℕ → List ℕ → View × List ℕ
drawn_at shape residuals offset out =
    let written = write_outcome shape.width shape.height residuals out in
    (record { number = written.0.number; offset = offset; bytes = written.0.bytes }, written.1)

-- the residuals of an inverse, which 8 may refuse
unfoldable pub inverse_shown : Shape → List ℤ → ℕ → List ℕ → View × List ℕ
inverse_shown shape coefficients offset out =
    let outcome = inverse_outcome shape coefficients (blank shape) in
    cond (eqb outcome.0.number 0) (drawn_at shape outcome.1 offset out) (refused_at outcome.0.number offset, out)

-- the n-th data field, by its tag; where there is none, the number with which the reader stops, 0 at the end of the file
unfoldable pub shown_outcome : List ℕ → ℕ → List ℕ → View × List ℕ
shown_outcome file n out =
    let cursor = picked file n in
    let advance = advance_of file cursor in
    let given = numbers (bytes_of file cursor) in
    cond (eqb advance.tag 2) (inverse_shown cursor.shape given cursor.at out)
    (cond (eqb advance.tag 3) (drawn_at cursor.shape given cursor.at out)
    (refused_at advance.number cursor.at, out))
