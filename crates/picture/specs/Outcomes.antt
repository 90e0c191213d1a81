-- Document 02, Wish 11: the outcomes of writing and of reading a picture. "bytes beyond the file stay"; "Refusals, output
-- untouched".
use Rattle.std.specs.Prelude.{cond, not, List, [], ◌∷◌, ℕ, ◌*◌, eqb, ltb, ℤ, length, drop}
use Rattle.algebra.specs.Lists.{over}
use Rattle.algebra.specs.Refusals.{Test, first_of}
use Rattle.meaning.specs.Shape.{is_size}
use Rattle.meaning.specs.Answer.{test, input_test, output_test}
use Rattle.picture_header.specs.Header.{header_of, is_picture}
use Rattle.picture_samples.specs.Samples.{any_beyond, residuals}
use Rattle.picture.specs.declared.write.Written.{Written}
use Rattle.picture.specs.declared.read.Picture.{Picture}
use Rattle.picture.specs.Picture.{picture_of}

-- "writing, 1, 2, 6, then 23 for a residual outside -32768..32767, then 7 for an output too short to hold the file"
abbrev pub write_tests : ℕ → ℕ → List ℤ → ℕ → List Test
write_tests w h zs room =
    test (not (is_size w)) 1
    ∷ test (not (is_size h)) 2
    ∷ input_test (w * h) (length zs)
    ∷ test (any_beyond zs) 23
    ∷ test (ltb room (length (picture_of w h zs))) 7
    ∷ []

-- the number and the length of the file, and what the output holds then
abbrev pub write_outcome : ℕ → ℕ → List ℤ → List ℕ → Written × List ℕ
write_outcome w h zs out =
    let file = picture_of w h zs in
    first_of (write_tests w h zs (length out)) (λ number place. (record { number = number; bytes = 0 }, out))
    (record { number = 0; bytes = length file }, over file out)

-- the bytes behind the header
abbrev pub behind : List ℕ → List ℕ
behind file = drop (header_of file).start file

-- "reading, 24 for a header that isn't such a graymap, or sizes that 1 and 2 would refuse, then 25 for too few or too many
-- samples, then 7 as in document 01"
abbrev pub read_tests : List ℕ → List ℤ → List Test
read_tests file out =
    let head = (header_of file).header in
    let count = head.width * head.height in
    test (not (is_picture head)) 24
    ∷ test (not (eqb (length (behind file)) (2 * count))) 25
    ∷ output_test count (length out)
    ∷ []

-- the width and the height of the header, but for 24: of a header that is none
abbrev pub read_answer : List ℕ → ℕ → Picture
read_answer file number =
    let head = (header_of file).header in
    cond (eqb number 24) (record { number = number; width = 0; height = 0 })
    (record { number = number; width = head.width; height = head.height })

-- the number, the width and the height, and what the output holds then
abbrev pub read_outcome : List ℕ → List ℤ → Picture × List ℤ
read_outcome file out = first_of (read_tests file out) (λ number place. (read_answer file number, out)) (read_answer file 0, residuals (behind file))
