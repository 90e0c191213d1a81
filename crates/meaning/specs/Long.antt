-- Document 02, Wish 14: "The second edition's long numbers". The inverse of a block whose range and last shift follow the
-- extended-precision switch: the definitions of the inverse at `long_plan`, and its refusals.
use Rattle.std.specs.Prelude.{Bool, ◌||◌, List, [], ◌∷◌, ◌++◌, ℕ, ℤ, length}
use Rattle.std.specs.Int.Signed.{lt_z}
use Rattle.algebra.specs.Clip.{Range}
use Rattle.algebra.specs.First.{first_at}
use Rattle.algebra.specs.Refusals.{Test}
use Rattle.meaning.specs.declared.Shape.{Shape}
use Rattle.meaning.specs.Shape.{is_size, is_long_depth}
use Rattle.meaning.specs.Plan.{Plan, long_plan}
use Rattle.meaning.specs.Answer.{Outcome, test_at, shape_tests_by}
use Rattle.meaning.specs.Inverse.{plan_tests, plan_outcome}

-- "a coefficient outside the range"
abbrev pub beyond : Range → ℤ → Bool
beyond r z = lt_z z r.low || lt_z r.high z

-- "with its place": of the first, row by row
abbrev pub first_beyond : Range → List ℤ → ℕ
first_beyond r c = first_at (λ k z. beyond r z) 0 c

-- 27, with its place
abbrev pub beyond_test : Plan → List ℤ → Test
beyond_test p c = test_at (first_beyond p.range c) (length c) 27

-- 1 to 5 and 20: "5 accepts 13..16 only with the switch on"
abbrev pub long_shape_tests : Bool → Shape → List Test
long_shape_tests extended sh = shape_tests_by (is_size sh.width) (is_size sh.height) (is_long_depth extended sh.depth) sh

-- "27 .., after 8"
abbrev pub long_tests : Bool → Shape → List ℤ → List ℤ → List Test
long_tests extended sh c out =
    let p = long_plan extended sh in
    plan_tests (long_shape_tests extended sh) p c out ++ (beyond_test p c ∷ [])

abbrev pub long_outcome : Bool → Shape → List ℤ → List ℤ → Outcome
long_outcome extended sh c out = plan_outcome (long_tests extended sh c out) (long_plan extended sh) c out
