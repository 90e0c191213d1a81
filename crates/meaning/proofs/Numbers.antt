-- "Numbers on both sides", those of lines and blocks: one table, `items`, and one theorem, `items-hold`. What each entry
-- says is `Says`. Items 5, 9 and 10, which are not marked P, stand in it too, with calls that tell the low end and the order of the
-- lengths, the numbers of kind 0, and two calls of long numbers.
use mathlib.Core.Path.{◌≡◌, refl}
use mathlib.Core.Bool.{true}
use mathlib.Core.List.{List, [], ◌∷◌}
use Prim.Native.Nat.{ℕ, ◌+◌, ◌*◌, ◌/◌}
use lib.IntN.{ℤ, pos, negsuc}
use lib.ListN.{length, replicate, set}
use Rattle.algebra.specs.Sum.{sum, sumℕ}
use Rattle.algebra.specs.Lists.{at, tabulate, block}
use Rattle.algebra.specs.First.{first_at}
use Rattle.meaning.specs.declared.Shape.{Shape}
use Rattle.meaning.specs.declared.Answer.{Answer}
use Rattle.meaning.specs.Weights.{first, fold, S, C, cosines, turn, dct2, weight}
use Rattle.meaning.specs.Line.{forward_sum, inverse_sum, forward_line}
use Rattle.meaning.specs.Shape.{is_size, is_kind, is_depth, is_long_depth, most_kept, keeps, shape_of, keeping}
use Rattle.meaning.specs.Plan.{short_range, reach}
use Rattle.meaning.specs.Answer.{Outcome, refused, accepted, forward_line_outcome}
use Rattle.meaning.specs.Inverse.{column_sum, rounded, middle_at, rails, row_sum, residual, inverse_block, inverse_outcome}
use Rattle.meaning.specs.Long.{long_outcome}
use Rattle.meaning.specs.Forward.{row_value, column_value, coefficient, forward_block, forward_outcome}
use Rattle.meaning.proofs.Sharing.{published4, cosines4}

pub data Item : Type 0 where
  -- a line of x gives y
  line_gives : ℕ → List ℤ → List ℤ → Item
  -- the weights of a kind at n points, row by row
  weights : ℕ → ℕ → List ℤ → Item
  -- the first weights of the odd rows of kind 0 at n points
  odds : ℕ → List ℤ → Item
  -- the middle rounding of e
  rounding : ℤ → ℤ → Item
  -- a forward block's first coefficient
  starts : Shape → List ℤ → ℤ → Item
  -- an inverse block's rail count, and with it the residuals
  counts : Shape → List ℤ → ℕ → Item
  gives : Shape → List ℤ → ℕ → List ℤ → Item
  -- an inverse block that is taken
  takes : Shape → List ℤ → Item
  -- calls that are turned down: number and place, for an output of so many numbers
  inverse_refused : Shape → List ℤ → ℕ → ℕ → ℕ → Item
  forward_refused : Shape → List ℤ → ℕ → ℕ → ℕ → Item
  -- an inverse of long numbers, with the switch on
  long_refused : Shape → List ℤ → ℕ → ℕ → ℕ → Item

-- what an output of n numbers held before
abbrev held : ℕ → List ℤ
held n = replicate n (pos 7)

abbrev elements : Shape → ℕ
elements sh = sh.width * sh.height

-- an answer with the first number of the output
abbrev front : Outcome → Answer × ℤ
front o = (o.0, at o.1 0)

abbrev pub Says : Item → Type 0
Says (line_gives kind x y) = forward_line_outcome (length x) kind x (held (length x)) ≡ (accepted 0, y)
Says (weights kind n t) = block n n (λ j i. weight kind n i j) ≡ t
Says (odds n t) = tabulate (n / 2) (λ i. weight 0 n (2 * i + 1) 0) ≡ t
Says (rounding e m) = rounded e ≡ m
Says (starts sh r z) = front (forward_outcome sh r (held (elements sh))) ≡ (accepted 0, z)
Says (counts sh c n) = (inverse_outcome sh c (held (elements sh))).0 ≡ accepted n
Says (gives sh c n r) = inverse_outcome sh c (held (elements sh)) ≡ (accepted n, r)
Says (takes sh c) = (inverse_outcome sh c (held (elements sh))).0.number ≡ 0
Says (inverse_refused sh c out number place) = inverse_outcome sh c (held out) ≡ (refused number place, held out)
Says (forward_refused sh r out number place) = forward_outcome sh r (held out) ≡ (refused number place, held out)
Says (long_refused sh c out number place) = long_outcome true sh c (held out) ≡ (refused number place, held out)

-- ---- the calls
abbrev pub mixed : ℕ → ℕ → ℕ → ℕ → ℕ → Shape
mixed horizontal vertical width height depth = shape_of width height horizontal vertical depth

-- kind 1 twice
abbrev pub sized : ℕ → ℕ → ℕ → Shape
sized = mixed 1 1

abbrev pub all : ℕ → ℤ → List ℤ
all n z = replicate n z

-- n numbers, all 0 but the one at place k
abbrev pub alone : ℕ → ℕ → ℤ → List ℤ
alone n k z = set (all n (pos 0)) k z

-- a first column of four, and 0 elsewhere
abbrev pub column : ℤ → ℤ → ℤ → ℤ → List ℤ
column a b c d = set (set (set (alone 16 0 a) 4 b) 8 c) 12 d

abbrev pub items : List Item
items =
    -- 1, 2
    line_gives 1 (all 4 (pos 1)) (pos 242 ∷ pos 74 ∷ pos 36 ∷ pos 16 ∷ [])
    ∷ line_gives 2 (all 4 (pos 1)) (pos 242 ∷ negsuc 73 ∷ pos 36 ∷ negsuc 15 ∷ [])
    -- 3
    ∷ weights 2 4 published4
    -- 4
    ∷ starts (sized 4 4 8) (all 16 (pos 255)) (pos 29168)
    ∷ starts (sized 4 4 8) (all 16 (negsuc 254)) (negsuc 29167)
    -- 5
    ∷ forward_refused (sized 4 4 8) (all 16 (pos 256)) 16 9 0
    -- 6
    ∷ rounding (pos 63) (pos 0)
    ∷ rounding (pos 64) (pos 1)
    ∷ rounding (negsuc 63) (pos 0)
    ∷ rounding (negsuc 64) (negsuc 0)
    -- 7
    ∷ counts (sized 4 4 10) (column (pos 0) (pos 32767) (pos 21063) (pos 0)) 0
    ∷ counts (sized 4 4 10) (column (pos 0) (pos 32767) (pos 21064) (pos 0)) 0
    ∷ counts (sized 4 4 10) (column (pos 0) (pos 32767) (pos 21066) (pos 0)) 1
    -- 8, as a call
    ∷ gives (sized 4 4 10) (alone 16 0 (pos 64)) 0
    (pos 0 ∷ pos 1 ∷ pos 1 ∷ pos 1 ∷ pos 1 ∷ pos 2 ∷ pos 2 ∷ pos 2 ∷ pos 1 ∷ pos 2 ∷ pos 3 ∷ pos 3 ∷ pos 1 ∷ pos 2 ∷ pos 3 ∷ pos 3 ∷ [])
    ∷ counts (sized 4 4 10) (all 16 (pos 32767)) 4
    -- 9
    ∷ takes (sized 32 4 10) (alone 128 15 (pos 1))
    ∷ inverse_refused (sized 32 4 10) (alone 128 16 (pos 1)) 128 8 16
    -- 10
    ∷ inverse_refused (shape_of 5 4 0 0 7) (all 16 (pos 0)) 16 1 0
    -- the low end as the high one of 7: -32768 stays and does not count, -32769 does
    ∷ counts (sized 4 4 10) (column (pos 0) (negsuc 32766) (negsuc 21065) (pos 0)) 0
    ∷ counts (sized 4 4 10) (column (pos 0) (negsuc 32766) (negsuc 21066) (pos 0)) 1
    -- both lengths wrong: the input's is told
    ∷ inverse_refused (sized 4 4 10) (all 15 (pos 0)) 15 6 0
    -- kind 0: lines, H.266's weights, blocks, and what is kept of either direction
    ∷ line_gives 0 (all 4 (pos 1)) (pos 256 ∷ pos 0 ∷ pos 0 ∷ pos 0 ∷ [])
    ∷ weights 0 4 cosines4
    ∷ odds 4 (pos 83 ∷ pos 36 ∷ [])
    ∷ odds 8 (pos 89 ∷ pos 75 ∷ pos 50 ∷ pos 18 ∷ [])
    ∷ odds 16 (pos 90 ∷ pos 87 ∷ pos 80 ∷ pos 70 ∷ pos 57 ∷ pos 43 ∷ pos 25 ∷ pos 9 ∷ [])
    ∷ odds 32 (pos 90 ∷ pos 90 ∷ pos 88 ∷ pos 85 ∷ pos 82 ∷ pos 78 ∷ pos 73 ∷ pos 67 ∷ pos 61 ∷ pos 54 ∷ pos 46 ∷ pos 38 ∷ pos 31 ∷ pos 22 ∷ pos 13 ∷ pos 4 ∷ [])
    ∷ gives (mixed 0 0 4 4 10) (alone 16 0 (pos 64)) 0 (all 16 (pos 2))
    ∷ takes (mixed 0 0 32 32 10) (alone 1024 1023 (pos 1))
    ∷ takes (mixed 0 1 32 32 10) (alone 1024 511 (pos 1))
    ∷ inverse_refused (mixed 0 1 32 32 10) (alone 1024 512 (pos 1)) 1024 8 512
    ∷ inverse_refused (mixed 2 0 32 32 10) (alone 1024 1008 (pos 1)) 1024 8 1008
    ∷ inverse_refused (mixed 3 0 4 4 10) (all 16 (pos 0)) 16 3 0
    ∷ inverse_refused (mixed 0 3 4 4 10) (all 16 (pos 0)) 16 4 0
    -- the kept part of the shape: 8 by it, and 20 at either end, after 5 and before 6
    ∷ takes (keeping (sized 4 4 10) 3 4) (alone 16 2 (pos 1))
    ∷ inverse_refused (keeping (sized 4 4 10) 3 4) (alone 16 3 (pos 1)) 16 8 3
    ∷ inverse_refused (keeping (sized 4 4 10) 4 3) (alone 16 12 (pos 1)) 16 8 12
    ∷ inverse_refused (keeping (sized 4 4 10) 0 4) (all 16 (pos 0)) 16 20 0
    ∷ inverse_refused (keeping (sized 32 4 10) 17 4) (all 128 (pos 0)) 128 20 0
    ∷ inverse_refused (keeping (sized 4 4 13) 4 5) (all 16 (pos 0)) 16 5 0
    ∷ inverse_refused (keeping (sized 4 4 10) 4 5) (all 15 (pos 0)) 15 20 0
    -- long numbers: a coefficient outside both the kept part and the range is 8, one outside the range alone 27
    ∷ long_refused (sized 32 4 10) (alone 128 16 (pos 65536)) 128 8 16
    ∷ long_refused (sized 4 4 10) (alone 16 3 (pos 65536)) 16 27 3
    ∷ []

-- what a list of items says, all of it
infixr 5 ◌and◌
pub data Hold : List Item → Type 0 where
  none : Hold []
  ◌and◌ : {i : Item} {is : List Item} → Says i → Hold is → Hold (i ∷ is)

pub items-hold : Hold items
unfolding sum sumℕ tabulate block first_at first fold S C cosines turn dct2 weight forward_sum inverse_sum forward_line is_size is_kind is_depth is_long_depth most_kept keeps short_range reach column_sum middle_at rails row_sum residual inverse_block row_value column_value coefficient forward_block
items-hold =
    refl and refl and refl and refl and refl and refl and refl and refl and refl and refl and refl and refl and refl
    and refl and refl and refl and refl and refl and refl and refl and refl and refl and refl and refl and refl and refl
    and refl and refl and refl and refl and refl and refl and refl and refl and refl and refl and refl and refl and refl and refl and refl and refl and refl and none
