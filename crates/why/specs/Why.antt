-- Document 02, Wish 4: "Why is this residual what it is?" The four parts of meaning/specs/Exact at a place, and the refusals of the
-- two calls, over any plan.
use Rattle.std.specs.Prelude.{Bool, not, List, [], ◌∷◌, ◌++◌, ℕ, ◌*◌, ◌/◌, ◌%◌, ltb, ℤ, pos, length}
use Rattle.algebra.specs.Refusals.{Test, first_of}
use Rattle.meaning.specs.declared.Shape.{Shape}
use Rattle.meaning.specs.Plan.{Plan, plan_of, long_plan}
use Rattle.meaning.specs.Answer.{test, input_test, shape_tests}
use Rattle.meaning.specs.Inverse.{outside_test}
use Rattle.meaning.specs.Long.{beyond_test, long_shape_tests}
use Rattle.meaning.specs.Exact.{exact, middle_roundings, clippings, last_rounding}
use Rattle.why.specs.declared.answer.Parts.{Parts}

-- "the parts: the exact double sum; what the middle roundings added ..; what clipping added ..; what the last rounding added", at a
-- place: "Place x + y*w is column x, row y"
abbrev pub parts_of : Plan → List ℤ → ℕ → Parts
parts_of p c place =
    let x = place % p.width in
    let y = place / p.width in
    record {
      number = 0;
      place = 0;
      exact = exact p c x y;
      middle_roundings = middle_roundings p c x y;
      clippings = clippings p c x y;
      last_rounding = last_rounding p c x y;
    }

-- "Refusals, all four parts 0"
abbrev pub no_parts : ℕ → ℕ → Parts
no_parts number place =
    record { number = number; place = place; exact = pos 0; middle_roundings = pos 0; clippings = pos 0; last_rounding = pos 0 }

-- "15 for a place not below w*h"
abbrev pub place_test : Plan → ℕ → Test
place_test p place = test (not (ltb place (p.width * p.height))) 15

-- "those of the inverse without 7, then 15": the tests of a shape, 6, 8, those that stand between 8 and 15, and 15
abbrev pub why_tests : List Test → Plan → List ℤ → List Test → ℕ → List Test
why_tests shape p c between place =
    shape ++ (input_test (p.width * p.height) (length c) ∷ outside_test p c ∷ (between ++ (place_test p place ∷ [])))

-- the outcome by any plan
abbrev pub why_by : List Test → Plan → List ℤ → ℕ → Parts
why_by tests p c place = first_of tests no_parts (parts_of p c place)

abbrev pub why_outcome : Shape → List ℤ → ℕ → Parts
why_outcome sh c place = let p = plan_of sh in why_by (why_tests (shape_tests sh) p c [] place) p c place

-- Wish 14: "27 .., after 8, with its place", and "in Wish 4, s stands for 20-d"
abbrev pub long_why_outcome : Bool → Shape → List ℤ → ℕ → Parts
long_why_outcome extended sh c place =
    let p = long_plan extended sh in
    why_by (why_tests (long_shape_tests extended sh) p c (beyond_test p c ∷ []) place) p c place
