-- Every transform block of a stream whose transform is not skipped, in one call, in place: H.266's sides of 1 to 64, with LFNST or
-- without, told how many columns and rows to read (docs/DECISIONS.md, "Transform blocks", has where the rules come from). What is
-- handed over, the plan it is worked by, the one stage of a side of 1, LFNST, the refusals, and the outcome.
use Rattle.std.specs.Prelude.{Bool, true, not, cond, ◌&&◌, ◌||◌, List, [], ◌∷◌, ◌++◌, ℕ, ◌+◌, ◌*◌, ◌-◌, ◌/◌, ◌%◌, eqb, ltb, leb, ℤ, pos, length}
use Rattle.algebra.specs.Shift.{nearest}
use Rattle.algebra.specs.Lists.{at, tabulate, block}
use Rattle.algebra.specs.First.{first_at}
use Rattle.algebra.specs.Refusals.{Test}
use Rattle.meaning.specs.Line.{inverse_sum}
use Rattle.meaning.specs.Shape.{is_size, is_kind, is_depth_to, most_kept, is_kept}
use Rattle.meaning.specs.Plan.{Plan, range_of, reach}
use Rattle.meaning.specs.Answer.{Outcome, outcome, test, test_at, input_test, accepted}
use Rattle.meaning.specs.Inverse.{rails, inverse_block}
use Rattle.meaning.specs.Long.{beyond}
use Rattle.lfnst.specs.LowFrequency.{is_wide, low_at}
use Rattle.transform_block.specs.declared.TransformBlock.{TransformBlock}

-- "1, 2, 4, 8, 16, 32 or 64"
unfoldable pub is_block_side : ℕ → Bool
is_block_side n = eqb n 1 || (eqb n 2 || (is_size n || eqb n 64))

-- what 2 tests: "height, or both sides 1"
abbrev pub is_pair : TransformBlock → Bool
is_pair b = is_block_side b.height && not (eqb b.width 1 && eqb b.height 1)

-- "a kind other than 0 where the side is 2 or 64"
abbrev pub no_line : ℕ → ℕ → Bool
no_line kind n = (eqb n 2 || eqb n 64) && not (eqb kind 0)

-- "0 off, any other number on"
unfoldable pub is_on : TransformBlock → Bool
is_on b = not (eqb b.extended 0)

-- "the first columns and rows", "from 1 to the most"
abbrev pub is_readable : TransformBlock → Bool
is_readable b = is_kept b.horizontal b.width b.columns && is_kept b.vertical b.height b.rows

-- "lfnst (0 none, 1 or 2: the index)"
unfoldable pub has_low : TransformBlock → Bool
has_low b = not (eqb b.lfnst 0)

-- with LFNST, "columns and rows are at most 4"
unfoldable pub is_corner : TransformBlock → Bool
is_corner b = cond (has_low b) (leb b.columns 4 && leb b.rows 4) true

-- what LFNST asks for: "a side below 4, or a kind other than 0" has none
unfoldable pub takes_low : TransformBlock → Bool
takes_low b = (leb 4 b.width && leb 4 b.height) && (eqb b.horizontal 0 && eqb b.vertical 0)

-- what 31 tests: "lfnst above 2, set above 3, transposed above 1 (these three with lfnst 0 too)", and what LFNST asks for
unfoldable pub is_low : TransformBlock → Bool
is_low b = (leb b.lfnst 2 && (leb b.set 3 && leb b.transposed 1)) && cond (has_low b) (takes_low b) true

-- "the most columns and rows, switch off", no LFNST
abbrev pub block_of : ℕ → ℕ → ℕ → ℕ → ℕ → TransformBlock
block_of width height horizontal vertical depth =
    record {
      width = width;
      height = height;
      horizontal = horizontal;
      vertical = vertical;
      depth = depth;
      extended = 0;
      columns = most_kept horizontal width;
      rows = most_kept vertical height;
      lfnst = 0;
      set = 0;
      transposed = 0;
    }

-- "a block with a side of 1 has one stage"
unfoldable pub is_thin : TransformBlock → Bool
is_thin b = eqb b.width 1 || eqb b.height 1

-- R
abbrev pub reach_of : TransformBlock → ℕ
reach_of b = reach (is_on b) b.depth

-- "Last shift 5+R-d behind two stages", 6+R-d behind one
abbrev pub last_of : TransformBlock → ℕ
last_of b = cond (is_thin b) 6 5 + reach_of b - b.depth

abbrev pub transform_plan : TransformBlock → Plan
transform_plan b =
    record {
      width = b.width;
      height = b.height;
      horizontal = b.horizontal;
      vertical = b.vertical;
      columns = b.columns;
      rows = b.rows;
      range = range_of (reach_of b);
      last = last_of b;
    }

-- ---- one stage
-- what belongs to the side that is not 1
abbrev pub of_side : {A : Type 0} → TransformBlock → A → A → A
of_side b horizontal vertical = cond (eqb b.width 1) vertical horizontal

-- the line of that side, over what is read of it
unfoldable pub side_sum : TransformBlock → List ℤ → ℕ → ℤ
side_sum b c k = inverse_sum (of_side b b.horizontal b.vertical) (of_side b b.width b.height) (of_side b b.columns b.rows) (at c) k

unfoldable pub side_residual : TransformBlock → List ℤ → ℕ → ℤ
side_residual b c k = nearest (last_of b) (side_sum b c k)

unfoldable pub side_block : TransformBlock → List ℤ → List ℤ
side_block b c = tabulate (b.width * b.height) (side_residual b c)

-- ---- LFNST
-- what stands in column x of row y as far as it is read: "everything else counts as 0"
unfoldable pub read_at : TransformBlock → List ℤ → ℕ → ℕ → ℤ
read_at b c x y = cond (ltb x b.columns && ltb y b.rows) (at c (x + y * b.width)) (pos 0)

-- the numbers that columns and rows run on
unfoldable pub low_numbers : TransformBlock → List ℤ → List ℤ
low_numbers b c = block b.width b.height (low_at b.width b.height b.lfnst b.set (eqb b.transposed 1) (reach_of b) (read_at b c))

-- "the first 4 by 4 (16), or .. the first 8 by 8 (48)" of them may be other than 0
unfoldable pub low_side : TransformBlock → ℕ
low_side b = cond (is_wide b.width b.height) 8 4

-- the block behind the stage, of which that much is read
abbrev pub behind_low : TransformBlock → TransformBlock
behind_low b =
    record {
      width = b.width;
      height = b.height;
      horizontal = b.horizontal;
      vertical = b.vertical;
      depth = b.depth;
      extended = b.extended;
      columns = low_side b;
      rows = low_side b;
      lfnst = 0;
      set = b.set;
      transposed = b.transposed;
    }

-- ---- refusals
-- "a number that is read": in the first columns and rows
abbrev pub is_read : Plan → ℕ → Bool
is_read p k = ltb (k % p.width) p.columns && ltb (k / p.width) p.rows

-- "and outside -2^R .. 2^R-1"
abbrev pub read_beyond : Plan → ℕ → ℤ → Bool
read_beyond p k z = is_read p k && beyond p.range z

-- "the first row by row"
abbrev pub first_read_beyond : Plan → List ℤ → ℕ
first_read_beyond p c = first_at (read_beyond p) 0 c

-- 1 to 4, 30, 5, 20 and 31
abbrev pub block_tests : TransformBlock → List Test
block_tests b =
    test (not (is_block_side b.width)) 1
    ∷ test (not (is_pair b)) 2
    ∷ test (not (is_kind b.horizontal)) 3
    ∷ test (not (is_kind b.vertical)) 4
    ∷ test (no_line b.horizontal b.width || no_line b.vertical b.height) 30
    ∷ test (not (is_depth_to 16 b.depth)) 5
    ∷ test (not (is_readable b && is_corner b)) 20
    ∷ test (not (is_low b)) 31
    ∷ []

-- and 6
abbrev pub handed_tests : TransformBlock → ℕ → List Test
handed_tests b n = block_tests b ++ (input_test (b.width * b.height) n ∷ [])

-- and 27, with its place
abbrev pub transform_tests : TransformBlock → List ℤ → List Test
transform_tests b c = handed_tests b (length c) ++ (test_at (first_read_beyond (transform_plan b) c) (length c) 27 ∷ [])

-- columns and rows; "The rail count is as in document 02; 0 with one stage"
abbrev pub transformed : TransformBlock → List ℤ → Outcome
transformed b c = cond (is_thin b) (accepted 0, side_block b c) (accepted (rails (transform_plan b) c), inverse_block (transform_plan b) c)

-- LFNST, if the block has one, and "the two stages then run on these"
abbrev pub inverted : TransformBlock → List ℤ → Outcome
inverted b c = cond (has_low b) (transformed (behind_low b) (low_numbers b c)) (transformed b c)

-- "In place": the numbers are input and output; "A refused call leaves all as it was"
abbrev pub transform_outcome : TransformBlock → List ℤ → Outcome
transform_outcome b c = outcome (transform_tests b c) c (inverted b c)
