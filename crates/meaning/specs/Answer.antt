-- Document 01, "Numbers handed back when a call is turned down": the tests in their order, and the outcome of a call.
use Rattle.std.specs.Prelude.{Bool, not, List, [], ◌∷◌, ℕ, eqb, ltb, ℤ, length}
use Rattle.algebra.specs.Lists.{at}
use Rattle.algebra.specs.Refusals.{Test, first_of}
use Rattle.meaning.specs.declared.Shape.{Shape}
use Rattle.meaning.specs.declared.Answer.{Answer}
use Rattle.meaning.specs.Shape.{is_size, is_kind, is_depth, keeps}
use Rattle.meaning.specs.Line.{forward_line, inverse_line}

-- what a call hands back, and what its output holds then
abbrev pub Outcome : Type 0
Outcome = Answer × List ℤ

-- a test whose refusal names no place: "place 0 unless named"
abbrev pub test : Bool → ℕ → Test
test applies number = record { applies = applies; number = number; place = 0 }

-- a test of each of `count` numbers, the first that fails it standing at `place`, or none where that is not below the count
abbrev pub test_at : ℕ → ℕ → ℕ → Test
test_at place count number = record { applies = ltb place count; number = number; place = place }

-- "rail count 0"
abbrev pub refused : ℕ → ℕ → Answer
refused number place = record { number = number; place = place; rails = 0 }

-- "An accepted call hands back number 0 and place 0"
abbrev pub accepted : ℕ → Answer
accepted rails = record { number = 0; place = 0; rails = rails }

-- "the first that applies is given, and none is given otherwise. Output untouched": `out` is what the output held
abbrev pub outcome : List Test → List ℤ → Outcome → Outcome
outcome tests out done = first_of tests (λ number place. (refused number place, out)) done

-- 1 to 5, and 20, of a shape, by what its call takes for a width, a height and a depth
abbrev pub shape_tests_by : Bool → Bool → Bool → Shape → List Test
shape_tests_by width height depth sh =
    test (not width) 1
    ∷ test (not height) 2
    ∷ test (not (is_kind sh.horizontal)) 3
    ∷ test (not (is_kind sh.vertical)) 4
    ∷ test (not depth) 5
    ∷ test (not (keeps sh)) 20
    ∷ []

abbrev pub shape_tests : Shape → List Test
shape_tests sh = shape_tests_by (is_size sh.width) (is_size sh.height) (is_depth sh.depth) sh

-- 6 and 7: lengths other than n
abbrev pub input_test : ℕ → ℕ → Test
input_test n input = test (not (eqb input n)) 6

abbrev pub output_test : ℕ → ℕ → Test
output_test n output = test (not (eqb output n)) 7

abbrev pub length_tests : ℕ → ℕ → ℕ → List Test
length_tests n input output = input_test n input ∷ output_test n output ∷ []

-- "Lines can meet 1, 3, 6, 7"
abbrev pub line_tests : ℕ → ℕ → ℕ → ℕ → List Test
line_tests n kind input output = test (not (is_size n)) 1 ∷ test (not (is_kind kind)) 3 ∷ length_tests n input output

-- the outcome of a line: "All N inputs count, also at 32"
abbrev pub forward_line_outcome : ℕ → ℕ → List ℤ → List ℤ → Outcome
forward_line_outcome n kind x y = outcome (line_tests n kind (length x) (length y)) y (accepted 0, forward_line kind n (at x))

abbrev pub inverse_line_outcome : ℕ → ℕ → List ℤ → List ℤ → Outcome
inverse_line_outcome n kind x y = outcome (line_tests n kind (length x) (length y)) y (accepted 0, inverse_line kind n n (at x))
