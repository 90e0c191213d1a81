-- How large the weights of LFNST are, each and summed down a column: 121, and 470 with 16 outputs, 436 with 48. No sum over inputs of
-- size M is above 470 M, and no partial sum is (`column-part`). Assumes nothing.
use mathlib.Core.Path.{◌≡◌, refl}
use mathlib.Core.Bool.{Bool, true, false, cond, ◌&&◌}
use Prim.Native.Nat.{ℕ, ◌*◌, ◌≤◌, ◌<◌}
use lib.Dec.{T, leb, leb→le}
use lib.IntN.{ℤ, nat_abs, ◌*ℤ◌}
use Rattle.algebra.specs.Sum.{sum, sumℕ}
use Rattle.algebra.proofs.Sum.{abs-part}
use Rattle.algebra.proofs.Table.{all_to, all_to-at, and_left, and_right}
use Rattle.lfnst_tables.specs.Lfnst.{entry, outputs_of, matrix_of}
use Rattle.lfnst_tables.specs.Lfnst4 as four
use Rattle.lfnst_tables.specs.Lfnst8 as eight

-- the sizes of column j
abbrev pub column_size : ℕ → ℕ → ℕ → ℕ
column_size n matrix j = sumℕ 16 (λ i. nat_abs (entry n matrix i j))

-- the largest sum of sizes down a column
abbrev pub largest : Bool → ℕ
largest wide = cond wide 436 470

-- every column is that light, and no weight of it above 121
abbrev light_column : ℕ → ℕ → ℕ → ℕ → Bool
light_column n most matrix j = leb (column_size n matrix j) most && all_to 16 (λ i. leb (nat_abs (entry n matrix i j)) 121)

abbrev light_all : Bool → Bool
light_all wide = all_to 8 (λ matrix. all_to (outputs_of wide) (λ j. light_column (outputs_of wide) (largest wide) matrix j))

tested : (wide : Bool) → T (light_all wide)
unfolding sumℕ entry four.of16 four.of-0 four.of-1 four.of-2 four.of-3 four.of-4 four.of-5 four.of-6 four.of-7 eight.of48 eight.of-0 eight.of-1 eight.of-2 eight.of-3 eight.of-4 eight.of-5 eight.of-6 eight.of-7
tested true = tt
tested false = tt

module _ (wide : Bool) {matrix j : ℕ} (m : matrix < 8) (h : j < outputs_of wide) where
  column : T (light_column (outputs_of wide) (largest wide) matrix j)
  column =
      all_to-at (outputs_of wide) (λ j. light_column (outputs_of wide) (largest wide) matrix j)
      (all_to-at 8 (λ matrix. all_to (outputs_of wide) (λ j. light_column (outputs_of wide) (largest wide) matrix j)) (tested wide) matrix m) j h

  abbrev sum_light : Bool
  sum_light = leb (column_size (outputs_of wide) matrix j) (largest wide)

  abbrev all_light : Bool
  all_light = all_to 16 (λ i. leb (nat_abs (entry (outputs_of wide) matrix i j)) 121)

  pub column-size : column_size (outputs_of wide) matrix j ≤ largest wide
  column-size = leb→le (column_size (outputs_of wide) matrix j) (largest wide) (and_left sum_light all_light column)

  pub entry-size : (i : ℕ) → i < 16 → nat_abs (entry (outputs_of wide) matrix i j) ≤ 121
  entry-size i l = leb→le (nat_abs (entry (outputs_of wide) matrix i j)) 121 (all_to-at 16 (λ i. leb (nat_abs (entry (outputs_of wide) matrix i j)) 121) (and_right sum_light all_light column) i l)

  -- every partial sum of a column over inputs of size at most M
  pub column-part : (x : ℕ → ℤ) (M : ℕ) → ((i : ℕ) → i < 16 → nat_abs (x i) ≤ M) → (k : ℕ) → k ≤ 16 → nat_abs (sum k (λ i. entry (outputs_of wide) matrix i j *ℤ x i)) ≤ largest wide * M
  column-part x M = abs-part 16 (λ i. entry (outputs_of wide) matrix i j) x (largest wide) M column-size

-- .. and the largest are reached: output 6 of set 3 with index 1, output 16 of set 1 with index 2
pub narrow-reached : column_size 16 (matrix_of 3 1) 6 ≡ largest false
unfolding sumℕ entry four.of16 four.of-6
narrow-reached = refl

pub wide-reached : column_size 48 (matrix_of 1 2) 16 ≡ largest true
unfolding sumℕ entry eight.of48 eight.of-3
wide-reached = refl
