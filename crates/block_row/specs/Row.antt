-- Document 02, Wish 5: "A row of blocks in one call".
use Rattle.std.specs.Prelude.{cond, ◌&&◌, List, [], ◌∷◌, ◌++◌, ℕ, ◌+◌, ◌*◌, ltb, ℤ, length, take, drop}
use Rattle.algebra.specs.Refusals.{Test, first_of}
use Rattle.meaning.specs.declared.Shape.{Shape}
use Rattle.meaning.specs.declared.Answer.{Answer}
use Rattle.meaning.specs.Shape.{is_size}
use Rattle.meaning.specs.Answer.{test, length_tests}
use Rattle.meaning.specs.Inverse.{inverse_outcome}
use Rattle.block_row.specs.Numbers.{put_all}

-- "w*h": "A shape that fails 1 or 2 adds nothing to that sum"
unfoldable pub span : Shape → ℕ
span sh = cond (is_size sh.width && is_size sh.height) (sh.width * sh.height) 0

-- "the sum of w*h over the list"
unfoldable pub spans : List Shape → ℕ
spans [] = 0
spans (sh ∷ shs) = span sh + spans shs

-- "an answer per block", and what the output holds: each block has the front of both buffers, and the blocks after it have the
-- rest. "A refused block keeps its own stretch of the output; the others go on"
unfoldable pub blocks : List Shape → List ℤ → List ℤ → List Answer × List ℤ
blocks [] c out = ([], out)
blocks (sh ∷ shs) c out =
    let here = inverse_outcome sh (take (span sh) c) (take (span sh) out) in
    let rest = blocks shs (drop (span sh) c) (drop (span sh) out) in
    (here.0 ∷ rest.0, here.1 ++ rest.1)

-- the numbers of the answers, and what the output holds
abbrev pub Answered : Type 0
Answered = List ℕ × List ℤ

-- each answer in its place, and those beyond stay
unfoldable pub row_answers : List Shape → List ℕ → List ℤ → List ℤ → Answered
row_answers shapes answers c out = let made = blocks shapes c out in (put_all made.0 0 answers, made.1)

-- "Refusals, for the whole call and in this order, .. : 16 above 64 blocks; 6, then 7, where the buffers differ from the sum of
-- w*h over the list"
abbrev pub row_tests : List Shape → ℕ → ℕ → List Test
row_tests shapes input output = test (ltb 64 (length shapes)) 16 ∷ length_tests (spans shapes) input output

-- the number of the whole call, the numbers of the answers, and what the output holds
abbrev pub RowOutcome : Type 0
RowOutcome = ℕ × Answered

-- "with no answer per block and the output untouched"
abbrev pub row_outcome : List Shape → List ℕ → List ℤ → List ℤ → RowOutcome
row_outcome shapes answers c out =
    first_of (row_tests shapes (length c) (length out)) (λ number place. (number, (answers, out))) (0, row_answers shapes answers c out)
