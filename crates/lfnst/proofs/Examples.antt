-- The four sizes at which the rule changes, each on a block with one coefficient of 128, so that the values are a row of the matrix:
-- 4 by 4 and 8 by 8 read 8 coefficients, of which u(7) is the last; 4 by 8 reads 16 and gives 16 values, 8 by 16 gives 48. Both
-- ways of the flag. Assumes nothing.
use mathlib.Core.Path.{◌≡◌, refl}
use mathlib.Core.Bool.{Bool, true, false, cond, ◌&&◌}
use mathlib.Core.List.{List, [], ◌∷◌}
use Prim.Native.Nat.{ℕ}
use lib.Dec.{eqb}
use lib.IntN.{ℤ, pos, neg_ℤ}
use lib.ListN.{replicate}
use Rattle.algebra.specs.Sum.{sum}
use Rattle.algebra.specs.Lists.{tabulate, block, flat}
use Rattle.lfnst_tables.specs.Lfnst.{entry}
use Rattle.lfnst_tables.specs.Lfnst4 as four
use Rattle.lfnst_tables.specs.Lfnst8 as eight
use Rattle.lfnst.specs.LowFrequency.{order, input, inputs, is_wide, low_sum, low_value, is_written, row_by_row, standing, low_at, low_block}

abbrev p : ℕ → ℤ
p n = pos n

abbrev m : ℕ → ℤ
m n = neg_ℤ (pos n)

abbrev none : List ℤ
none = replicate 8 (pos 0)

-- 128 in one column of one row
abbrev one : ℕ → ℕ → ℕ → ℕ → ℤ
one column row x y = cond (eqb x column && eqb y row) (pos 128) (pos 0)

-- u(7) and u(8)
abbrev seventh : ℕ → ℕ → ℤ
seventh = one 1 2

abbrev eighth : ℕ → ℕ → ℤ
eighth = one 2 1

-- ---- 4 by 4: set 0, index 1
pub four-by-four : low_block 4 4 1 0 false 15 seventh ≡ flat (
    (p 2 ∷ p 34 ∷ m 5 ∷ p 1 ∷ p 0 ∷ p 0 ∷ p 0 ∷ p 0 ∷ []) ∷
    (m 7 ∷ p 24 ∷ m 25 ∷ m 3 ∷ p 0 ∷ p 0 ∷ p 0 ∷ p 0 ∷ []) ∷
    (p 8 ∷ p 99 ∷ m 28 ∷ m 29 ∷ p 0 ∷ p 0 ∷ p 0 ∷ p 0 ∷ []) ∷
    (p 6 ∷ m 43 ∷ p 21 ∷ p 11 ∷ p 0 ∷ p 0 ∷ p 0 ∷ p 0 ∷ []) ∷
    none ∷
    none ∷
    none ∷
    none ∷
    [])
unfolding sum tabulate block flat entry order input inputs is_wide low_sum low_value is_written row_by_row standing low_at low_block four.of16 four.of-0
four-by-four = refl

pub four-by-four-transposed : low_block 4 4 1 0 true 15 seventh ≡ flat (
    (p 2 ∷ m 7 ∷ p 8 ∷ p 6 ∷ p 0 ∷ p 0 ∷ p 0 ∷ p 0 ∷ []) ∷
    (p 34 ∷ p 24 ∷ p 99 ∷ m 43 ∷ p 0 ∷ p 0 ∷ p 0 ∷ p 0 ∷ []) ∷
    (m 5 ∷ m 25 ∷ m 28 ∷ p 21 ∷ p 0 ∷ p 0 ∷ p 0 ∷ p 0 ∷ []) ∷
    (p 1 ∷ m 3 ∷ m 29 ∷ p 11 ∷ p 0 ∷ p 0 ∷ p 0 ∷ p 0 ∷ []) ∷
    none ∷
    none ∷
    none ∷
    none ∷
    [])
unfolding sum tabulate block flat entry order input inputs is_wide low_sum low_value is_written row_by_row standing low_at low_block four.of16 four.of-0
four-by-four-transposed = refl

-- u(8) is not read
pub four-by-four-no-more : (transposed : Bool) → low_block 4 4 1 0 transposed 15 eighth ≡ replicate 64 (pos 0)
unfolding sum tabulate block flat entry order input inputs is_wide low_sum low_value is_written row_by_row standing low_at low_block four.of16 four.of-0
four-by-four-no-more true = refl
four-by-four-no-more false = refl

-- ---- 8 by 8: set 1, index 2
pub eight-by-eight : low_block 8 8 2 1 false 15 seventh ≡ flat (
    (p 1 ∷ m 6 ∷ m 24 ∷ p 17 ∷ m 5 ∷ p 3 ∷ m 2 ∷ p 1 ∷ []) ∷
    (p 24 ∷ p 10 ∷ p 39 ∷ m 21 ∷ p 5 ∷ m 4 ∷ p 2 ∷ m 1 ∷ []) ∷
    (p 33 ∷ p 32 ∷ m 30 ∷ p 4 ∷ m 3 ∷ m 1 ∷ m 1 ∷ p 0 ∷ []) ∷
    (m 4 ∷ p 13 ∷ m 16 ∷ m 10 ∷ p 0 ∷ m 1 ∷ p 0 ∷ p 0 ∷ []) ∷
    (p 24 ∷ m 26 ∷ m 37 ∷ p 33 ∷ p 0 ∷ p 0 ∷ p 0 ∷ p 0 ∷ []) ∷
    (p 5 ∷ m 32 ∷ p 55 ∷ m 5 ∷ p 0 ∷ p 0 ∷ p 0 ∷ p 0 ∷ []) ∷
    (m 7 ∷ p 22 ∷ m 14 ∷ m 22 ∷ p 0 ∷ p 0 ∷ p 0 ∷ p 0 ∷ []) ∷
    (p 1 ∷ m 9 ∷ m 3 ∷ p 13 ∷ p 0 ∷ p 0 ∷ p 0 ∷ p 0 ∷ []) ∷
    [])
unfolding sum tabulate block flat entry order input inputs is_wide low_sum low_value is_written row_by_row standing low_at low_block eight.of48 eight.of-3
eight-by-eight = refl

pub eight-by-eight-transposed : low_block 8 8 2 1 true 15 seventh ≡ flat (
    (p 1 ∷ p 24 ∷ p 33 ∷ m 4 ∷ p 24 ∷ p 5 ∷ m 7 ∷ p 1 ∷ []) ∷
    (m 6 ∷ p 10 ∷ p 32 ∷ p 13 ∷ m 26 ∷ m 32 ∷ p 22 ∷ m 9 ∷ []) ∷
    (m 24 ∷ p 39 ∷ m 30 ∷ m 16 ∷ m 37 ∷ p 55 ∷ m 14 ∷ m 3 ∷ []) ∷
    (p 17 ∷ m 21 ∷ p 4 ∷ m 10 ∷ p 33 ∷ m 5 ∷ m 22 ∷ p 13 ∷ []) ∷
    (m 5 ∷ p 5 ∷ m 3 ∷ p 0 ∷ p 0 ∷ p 0 ∷ p 0 ∷ p 0 ∷ []) ∷
    (p 3 ∷ m 4 ∷ m 1 ∷ m 1 ∷ p 0 ∷ p 0 ∷ p 0 ∷ p 0 ∷ []) ∷
    (m 2 ∷ p 2 ∷ m 1 ∷ p 0 ∷ p 0 ∷ p 0 ∷ p 0 ∷ p 0 ∷ []) ∷
    (p 1 ∷ m 1 ∷ p 0 ∷ p 0 ∷ p 0 ∷ p 0 ∷ p 0 ∷ p 0 ∷ []) ∷
    [])
unfolding sum tabulate block flat entry order input inputs is_wide low_sum low_value is_written row_by_row standing low_at low_block eight.of48 eight.of-3
eight-by-eight-transposed = refl

-- u(8) is not read
pub eight-by-eight-no-more : (transposed : Bool) → low_block 8 8 2 1 transposed 15 eighth ≡ replicate 64 (pos 0)
unfolding sum tabulate block flat entry order input inputs is_wide low_sum low_value is_written row_by_row standing low_at low_block eight.of48 eight.of-3
eight-by-eight-no-more true = refl
eight-by-eight-no-more false = refl

-- ---- 4 by 8: set 2, index 1
pub four-by-eight : low_block 4 8 1 2 false 15 eighth ≡ flat (
    (m 4 ∷ m 13 ∷ m 10 ∷ p 19 ∷ p 0 ∷ p 0 ∷ p 0 ∷ p 0 ∷ []) ∷
    (p 18 ∷ p 46 ∷ p 60 ∷ m 48 ∷ p 0 ∷ p 0 ∷ p 0 ∷ p 0 ∷ []) ∷
    (p 16 ∷ p 33 ∷ p 60 ∷ m 48 ∷ p 0 ∷ p 0 ∷ p 0 ∷ p 0 ∷ []) ∷
    (p 1 ∷ p 0 ∷ p 5 ∷ m 2 ∷ p 0 ∷ p 0 ∷ p 0 ∷ p 0 ∷ []) ∷
    none ∷
    none ∷
    none ∷
    none ∷
    [])
unfolding sum tabulate block flat entry order input inputs is_wide low_sum low_value is_written row_by_row standing low_at low_block four.of16 four.of-4
four-by-eight = refl

pub four-by-eight-transposed : low_block 4 8 1 2 true 15 eighth ≡ flat (
    (m 4 ∷ p 18 ∷ p 16 ∷ p 1 ∷ p 0 ∷ p 0 ∷ p 0 ∷ p 0 ∷ []) ∷
    (m 13 ∷ p 46 ∷ p 33 ∷ p 0 ∷ p 0 ∷ p 0 ∷ p 0 ∷ p 0 ∷ []) ∷
    (m 10 ∷ p 60 ∷ p 60 ∷ p 5 ∷ p 0 ∷ p 0 ∷ p 0 ∷ p 0 ∷ []) ∷
    (p 19 ∷ m 48 ∷ m 48 ∷ m 2 ∷ p 0 ∷ p 0 ∷ p 0 ∷ p 0 ∷ []) ∷
    none ∷
    none ∷
    none ∷
    none ∷
    [])
unfolding sum tabulate block flat entry order input inputs is_wide low_sum low_value is_written row_by_row standing low_at low_block four.of16 four.of-4
four-by-eight-transposed = refl

-- ---- 8 by 16: set 3, index 2
pub eight-by-sixteen : low_block 8 16 2 3 false 15 eighth ≡ flat (
    (p 11 ∷ p 14 ∷ p 6 ∷ m 3 ∷ p 1 ∷ m 1 ∷ p 1 ∷ p 0 ∷ []) ∷
    (p 10 ∷ m 7 ∷ m 9 ∷ p 3 ∷ m 2 ∷ p 1 ∷ m 1 ∷ p 0 ∷ []) ∷
    (p 22 ∷ p 21 ∷ p 1 ∷ m 21 ∷ p 2 ∷ m 4 ∷ p 1 ∷ m 2 ∷ []) ∷
    (p 92 ∷ p 1 ∷ p 53 ∷ p 0 ∷ m 9 ∷ p 1 ∷ m 2 ∷ p 0 ∷ []) ∷
    (m 21 ∷ m 11 ∷ p 1 ∷ p 40 ∷ p 0 ∷ p 0 ∷ p 0 ∷ p 0 ∷ []) ∷
    (m 5 ∷ m 4 ∷ m 24 ∷ p 5 ∷ p 0 ∷ p 0 ∷ p 0 ∷ p 0 ∷ []) ∷
    (m 4 ∷ p 5 ∷ m 6 ∷ m 5 ∷ p 0 ∷ p 0 ∷ p 0 ∷ p 0 ∷ []) ∷
    (p 0 ∷ p 0 ∷ p 0 ∷ m 3 ∷ p 0 ∷ p 0 ∷ p 0 ∷ p 0 ∷ []) ∷
    [])
unfolding sum tabulate block flat entry order input inputs is_wide low_sum low_value is_written row_by_row standing low_at low_block eight.of48 eight.of-7
eight-by-sixteen = refl

pub eight-by-sixteen-transposed : low_block 8 16 2 3 true 15 eighth ≡ flat (
    (p 11 ∷ p 10 ∷ p 22 ∷ p 92 ∷ m 21 ∷ m 5 ∷ m 4 ∷ p 0 ∷ []) ∷
    (p 14 ∷ m 7 ∷ p 21 ∷ p 1 ∷ m 11 ∷ m 4 ∷ p 5 ∷ p 0 ∷ []) ∷
    (p 6 ∷ m 9 ∷ p 1 ∷ p 53 ∷ p 1 ∷ m 24 ∷ m 6 ∷ p 0 ∷ []) ∷
    (m 3 ∷ p 3 ∷ m 21 ∷ p 0 ∷ p 40 ∷ p 5 ∷ m 5 ∷ m 3 ∷ []) ∷
    (p 1 ∷ m 2 ∷ p 2 ∷ m 9 ∷ p 0 ∷ p 0 ∷ p 0 ∷ p 0 ∷ []) ∷
    (m 1 ∷ p 1 ∷ m 4 ∷ p 1 ∷ p 0 ∷ p 0 ∷ p 0 ∷ p 0 ∷ []) ∷
    (p 1 ∷ m 1 ∷ p 1 ∷ m 2 ∷ p 0 ∷ p 0 ∷ p 0 ∷ p 0 ∷ []) ∷
    (p 0 ∷ p 0 ∷ m 2 ∷ p 0 ∷ p 0 ∷ p 0 ∷ p 0 ∷ p 0 ∷ []) ∷
    [])
unfolding sum tabulate block flat entry order input inputs is_wide low_sum low_value is_written row_by_row standing low_at low_block eight.of48 eight.of-7
eight-by-sixteen-transposed = refl
