-- Document 02, Wish 4: "A support engineer names a block and a place and wants the parts". The block is a data field of a file, named
-- by its count; the parts are those of an inverse.
use Rattle.std.specs.Prelude.{cond, List, ℕ, eqb, ℤ}
use Rattle.meaning.specs.declared.Shape.{Shape}
use Rattle.why.specs.Why.{why_outcome, no_parts}
use Rattle.file_fields.specs.Cursor.{advance_of, bytes_of}
use Rattle.file_numbers.specs.Numbers.{numbers}
use Rattle.file_pick.specs.Pick.{picked}
use Rattle.file_why.specs.declared.named.Reasons.{Reasons}

-- the coefficients of an inverse, which 8 may refuse, and 15 the place
abbrev pub inverse_named : Shape → List ℤ → ℕ → ℕ → Reasons
inverse_named shape coefficients offset place =
    record { tag = 2; offset = offset; depth = shape.depth; parts = why_outcome shape coefficients place }

-- a forward has no parts; where there is no such block, with the number with which the reader stops, 0 at the end of the file
abbrev pub none_named : ℕ → ℕ → ℕ → Reasons
none_named tag number offset = record { tag = tag; offset = offset; depth = 0; parts = no_parts number 0 }

-- the n-th data field, by its tag
unfoldable pub named_outcome : List ℕ → ℕ → ℕ → Reasons
named_outcome file n place =
    let cursor = picked file n in
    let advance = advance_of file cursor in
    cond (eqb advance.tag 2) (inverse_named cursor.shape (numbers (bytes_of file cursor)) cursor.at place)
    (none_named advance.tag advance.number cursor.at)
