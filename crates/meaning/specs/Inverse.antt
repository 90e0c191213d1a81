-- Document 01, "Blocks", "Inverse": both stages of a block over any plan, the rail count, and the outcome of a call.
use Rattle.std.specs.Prelude.{Bool, not, cond, ◌&&◌, List, [], ◌∷◌, ◌++◌, ℕ, ◌+◌, ◌*◌, ◌/◌, ◌%◌, eqb, ltb, ℤ, pos, ◌+ℤ◌, nat_abs, length}
use Rattle.algebra.specs.Sum.{sumℕ}
use Rattle.algebra.specs.Equal.{eq_z}
use Rattle.algebra.specs.Shift.{◌>>◌, nearest}
use Rattle.algebra.specs.Clip.{Range, clip}
use Rattle.algebra.specs.Lists.{at, block}
use Rattle.algebra.specs.First.{first_at}
use Rattle.algebra.specs.Refusals.{Test}
use Rattle.meaning.specs.declared.Shape.{Shape}
use Rattle.meaning.specs.Line.{inverse_sum}
use Rattle.meaning.specs.Plan.{Plan, plan_of}
use Rattle.meaning.specs.Answer.{Outcome, outcome, test_at, accepted, shape_tests, length_tests}

-- "Each kept column goes through the vertical line over its kept rows, giving h sums e"
unfoldable pub column_sum : Plan → List ℤ → ℕ → ℕ → ℤ
column_sum p c x y = inverse_sum p.vertical p.height p.rows (λ i. at c (x + i * p.width)) y

-- "(e+64)>>7"
abbrev pub rounded : ℤ → ℤ
rounded e = (e +ℤ pos 64) >> 7

-- "The middle value is (e+64)>>7, clipped"
abbrev pub middle : Range → ℤ → ℤ
middle r e = clip r (rounded e)

-- the middle value in column x of row y; 0 in a column that is not kept
unfoldable pub middle_at : Plan → List ℤ → ℕ → ℕ → ℤ
middle_at p c x y = cond (ltb x p.columns) (middle p.range (column_sum p c x y)) (pos 0)

-- whether a middle value counts: "only where the clip altered it" (document 02, Wish 2)
abbrev pub railed : ℤ → ℤ → Bool
railed before after = not (eq_z after before)

abbrev pub count : Bool → ℕ
count b = cond b 1 0

-- "how many middle values of kept columns, over all h rows"
unfoldable pub rails : Plan → List ℤ → ℕ
rails p c =
    sumℕ p.columns (λ x. sumℕ p.height (λ y. count (railed (rounded (column_sum p c x y)) (middle_at p c x y))))

-- "each row goes through the horizontal line over its kept columns, giving r"
unfoldable pub row_sum : Plan → List ℤ → ℕ → ℕ → ℤ
row_sum p c x y = inverse_sum p.horizontal p.width p.columns (λ i. middle_at p c i y) x

-- "The residual is (r + 2^(19-d)) >> (20-d)": in column x of row y
unfoldable pub residual : Plan → List ℤ → ℕ → ℕ → ℤ
residual p c x y = nearest p.last (row_sum p c x y)

unfoldable pub inverse_block : Plan → List ℤ → List ℤ
inverse_block p c = block p.width p.height (residual p c)

-- "a non-zero coefficient outside the kept part", in column x of row y
abbrev pub outside_at : ℕ → ℕ → ℕ → ℕ → ℤ → Bool
outside_at columns rows x y z = not (eqb (nat_abs z) 0) && not (ltb x columns && ltb y rows)

-- the same at place k
abbrev pub outside : Plan → ℕ → ℤ → Bool
outside p k z = outside_at p.columns p.rows (k % p.width) (k / p.width) z

-- "place of the first, row by row"
abbrev pub first_outside : Plan → List ℤ → ℕ
first_outside p c = first_at (outside p) 0 c

-- 8, with its place
abbrev pub outside_test : Plan → List ℤ → Test
outside_test p c = test_at (first_outside p c) (length c) 8

-- 6, 7 and 8, after those of a shape
abbrev pub plan_tests : List Test → Plan → List ℤ → List ℤ → List Test
plan_tests tests p c out =
    tests ++ length_tests (p.width * p.height) (length c) (length out) ++ (outside_test p c ∷ [])

-- the outcome of an inverse by any plan
abbrev pub plan_outcome : List Test → Plan → List ℤ → List ℤ → Outcome
plan_outcome tests p c out = outcome tests out (accepted (rails p c), inverse_block p c)

abbrev pub inverse_tests : Shape → List ℤ → List ℤ → List Test
inverse_tests sh c out = plan_tests (shape_tests sh) (plan_of sh) c out

abbrev pub inverse_outcome : Shape → List ℤ → List ℤ → Outcome
inverse_outcome sh c out = plan_outcome (inverse_tests sh c out) (plan_of sh) c out
