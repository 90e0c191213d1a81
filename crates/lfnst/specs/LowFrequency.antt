-- LFNST, the low-frequency stage that H.266 runs over the corner of a block before columns and rows, as a decoder in use has it
-- (docs/DECISIONS.md): what it reads, by which weights, and where its values go. Both sides are 4 or more.
use Rattle.std.specs.Prelude.{Bool, cond, ◌&&◌, ◌||◌, List, [], ◌∷◌, ℕ, ◌+◌, ◌*◌, ◌-◌, eqb, ltb, leb, ℤ, pos, ◌*ℤ◌, get_or}
use Rattle.algebra.specs.Sum.{sum}
use Rattle.algebra.specs.Lists.{block}
use Rattle.meaning.specs.Plan.{range_of}
use Rattle.meaning.specs.Inverse.{middle}
use Rattle.lfnst_tables.specs.Lfnst.{lfnst}

-- "the corner of 4 by 4, in the order (column, row)"
unfoldable pub order : List (ℕ × ℕ)
order =
    (0, 0) ∷ (0, 1) ∷ (1, 0) ∷ (0, 2) ∷ (1, 1) ∷ (2, 0) ∷ (0, 3) ∷ (1, 2) ∷ (2, 1) ∷ (3, 0) ∷ (1, 3) ∷ (2, 2) ∷ (3, 1) ∷ (2, 3) ∷ (3, 2) ∷ (3, 3) ∷ []

-- u(i), of coefficients that are given by column and row
unfoldable pub input : (ℕ → ℕ → ℤ) → ℕ → ℤ
input c i = let p = get_or order i (0, 0) in c p.0 p.1

-- "8 for blocks of 4 by 4 and of 8 by 8, else 16"
unfoldable pub inputs : ℕ → ℕ → ℕ
inputs width height = cond ((eqb width 4 && eqb height 4) || (eqb width 8 && eqb height 8)) 8 16

-- 48 values "where both sides are 8 or more, else 16"
unfoldable pub is_wide : ℕ → ℕ → Bool
is_wide width height = leb 8 width && leb 8 height

-- the sum over i of u(i) M(i, j)
unfoldable pub low_sum : (width height index set : ℕ) → (ℕ → ℕ → ℤ) → ℕ → ℤ
low_sum width height index set c j = sum (inputs width height) (λ i. input c i *ℤ lfnst set index (is_wide width height) i j)

-- v(j): rounded and clipped as a middle value is
unfoldable pub low_value : (width height index set reach : ℕ) → (ℕ → ℕ → ℤ) → ℕ → ℤ
low_value width height index set reach c j = middle (range_of reach) (low_sum width height index set c j)

-- "the first 4 by 4 (16), or the first 8 by 8 without its last 4 by 4 (48)"
unfoldable pub is_written : Bool → ℕ → ℕ → Bool
is_written wide x y = cond wide (ltb x 8 && ltb y 8 && (ltb y 4 || ltb x 4)) (ltb x 4 && ltb y 4)

-- "row by row": which value stands in column x of row y; 48 are "four rows of 8, four rows of 4"
unfoldable pub row_by_row : Bool → ℕ → ℕ → ℕ
row_by_row wide x y = cond wide (cond (ltb y 4) (x + 8 * y) (32 + x + 4 * (y - 4))) (x + 4 * y)

-- values v at their places, in column x of row y: "transposed (column by column) where the flag says so. All else is 0"
unfoldable pub standing : Bool → Bool → (ℕ → ℤ) → ℕ → ℕ → ℤ
standing wide transposed v x y =
    let column = cond transposed y x in
    let row = cond transposed x y in
    cond (is_written wide column row) (v (row_by_row wide column row)) (pos 0)

-- what the stage leaves in column x of row y
unfoldable pub low_at : (width height index set : ℕ) (transposed : Bool) (reach : ℕ) → (ℕ → ℕ → ℤ) → ℕ → ℕ → ℤ
low_at width height index set transposed reach c = standing (is_wide width height) transposed (low_value width height index set reach c)

-- the first 8 columns and rows of that, outside of which all is 0
unfoldable pub low_block : (width height index set : ℕ) (transposed : Bool) (reach : ℕ) → (ℕ → ℕ → ℤ) → List ℤ
low_block width height index set transposed reach c = block 8 8 (low_at width height index set transposed reach c)
