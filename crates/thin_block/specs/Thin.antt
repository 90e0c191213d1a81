-- Document 02, Wish 7: "Blocks one sample wide or high". The shapes of its call, the one stage of a thin block, the refusals, and
-- what a call leaves in both work areas.
use Rattle.std.specs.Prelude.{Bool, cond, ◌&&◌, ◌||◌, List, [], ◌∷◌, ◌++◌, ℕ, ◌*◌, ◌-◌, eqb, ltb, ℤ, length, drop}
use Rattle.algebra.specs.Shift.{nearest}
use Rattle.algebra.specs.Lists.{at, tabulate, block}
use Rattle.algebra.specs.Refusals.{Test, first_of}
use Rattle.meaning.specs.declared.Shape.{Shape}
use Rattle.meaning.specs.Line.{inverse_sum}
use Rattle.meaning.specs.Shape.{is_size, is_depth}
use Rattle.meaning.specs.Plan.{plan_of}
use Rattle.meaning.specs.Answer.{test, input_test, shape_tests_by}
use Rattle.meaning.specs.Inverse.{middle_at, rails, inverse_block, outside_test}
use Rattle.thin_block.specs.declared.Thin.{Thin}

-- "4, 8 or 16"
unfoldable pub is_line : ℕ → Bool
is_line n = eqb n 4 || (eqb n 8 || eqb n 16)

-- "1 and 2 accept 1 where the other side is 4, 8 or 16"
unfoldable pub is_side : ℕ → ℕ → Bool
is_side n other = is_size n || (eqb n 1 && is_line other)

-- "1 by N and N by 1 blocks. H.266 runs one stage on them"
unfoldable pub one_stage : Shape → Bool
one_stage sh = eqb sh.width 1 || eqb sh.height 1

-- what belongs to the side that is not 1: "The kind of a side of 1 is checked and not used"
abbrev pub along : {A : Type 0} → Shape → A → A → A
along sh horizontal vertical = cond (eqb sh.width 1) vertical horizontal

-- "one stage": the sums of the line of that side, over what is kept of it
unfoldable pub thin_sum : Shape → List ℤ → ℕ → ℤ
thin_sum sh c k = inverse_sum (along sh sh.horizontal sh.vertical) (along sh sh.width sh.height) (along sh sh.columns sh.rows) (at c) k

-- "Take the final shift from its text" (docs/DECISIONS.md, "Thin blocks")
abbrev pub thin_shift : ℕ → ℕ
thin_shift d = 21 - d

-- "with no middle rounding and no middle clip": the residual at place k
unfoldable pub thin_residual : Shape → List ℤ → ℕ → ℤ
thin_residual sh c k = nearest (thin_shift sh.depth) (thin_sum sh c k)

unfoldable pub thin_block : Shape → List ℤ → List ℤ
thin_block sh c = tabulate (sh.width * sh.height) (thin_residual sh c)

-- 1 to 5 and 20, "in this call alone"
abbrev pub thin_shape_tests : Shape → List Test
thin_shape_tests sh = shape_tests_by (is_side sh.width sh.height) (is_side sh.height sh.width) (is_depth sh.depth) sh

-- 6, and "19 for a work area shorter than w*h, in place of 7"
abbrev pub area_tests : ℕ → ℕ → ℕ → ℕ → List Test
area_tests n input first second = input_test n input ∷ test (ltb first n || ltb second n) 19 ∷ []

-- and 8
abbrev pub thin_tests : Shape → List ℤ → List ℤ → List ℤ → List Test
thin_tests sh c a b =
    thin_shape_tests sh ++ area_tests (sh.width * sh.height) (length c) (length a) (length b) ++ (outside_test (plan_of sh) c ∷ [])

-- what a call hands back, and what its areas hold then
pub record Areas : Type 0 where
  pub answer : Thin
  pub first : List ℤ
  pub second : List ℤ

-- "A refused call changes neither area"
abbrev pub areas_stay : List ℤ → List ℤ → ℕ → ℕ → Areas
areas_stay a b number place = record { answer = record { number = number; place = place; rails = 0; area = 0 }; first = a; second = b }

-- "their rail count is 0"; "Numbers beyond w*h, and the second area after one stage, stay"
abbrev pub after_one : Shape → List ℤ → List ℤ → List ℤ → Areas
after_one sh c a b =
    record {
      answer = record { number = 0; place = 0; rails = 0; area = 1 };
      first = thin_block sh c ++ drop (sh.width * sh.height) a;
      second = b;
    }

-- "After two stages the first holds the middle values, 0 in columns not kept"
abbrev pub after_two : Shape → List ℤ → List ℤ → List ℤ → Areas
after_two sh c a b =
    record {
      answer = record { number = 0; place = 0; rails = rails (plan_of sh) c; area = 2 };
      first = block sh.width sh.height (middle_at (plan_of sh) c) ++ drop (sh.width * sh.height) a;
      second = inverse_block (plan_of sh) c ++ drop (sh.width * sh.height) b;
    }

abbrev pub thin_outcome : Shape → List ℤ → List ℤ → List ℤ → Areas
thin_outcome sh c a b = first_of (thin_tests sh c a b) (areas_stay a b) (cond (one_stage sh) (after_one sh c a b) (after_two sh c a b))
