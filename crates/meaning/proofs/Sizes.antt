-- Sizes of weights and of a line's sums, over every line that there is. No row and no column of weights is above 64 n in size
-- (`row_sizes`, `column_sizes`), so no sum of a line over inputs of size M is above 64 n M (`forward_sum-in`, `inverse_sum-in`), and no
-- partial sum, its first k terms, is (`forward-part`, `inverse-part`). Over 16-bit inputs each partial sum of 4 to 32 points fits
-- 32 bits (`forward-part-fits`, and `inverse_sum-fits`, since an inverse sum is one over its first `count` inputs). "Biggest row
-- sums of sizes: 242, 475, 935, 1858" is `row_largest`; a row of kind 0 reaches 64 n, 2048 at 32 points. Over what is kept, a column
-- of kind 0 reaches `kept_largest`.
use mathlib.Core.Path.{◌≡◌, refl, sym, ap, ◌∙◌, subst}
use mathlib.Core.Bool.{Bool, true, false, cond, ◌&&◌}
use mathlib.Core.List.{List, [], ◌∷◌}
use Prim.Native.Nat.{ℕ, zero, suc, ◌+◌, ◌*◌, ◌-◌, ◌/◌, ◌%◌, ◌≤◌, ◌<◌, min, zero-le}
use native.Mathlib.Nat.{le_refl, le_trans, mul_left_comm, mul-mod_right}
use native.Mathlib.Omega.{arith}
use lib.Arith.{mod-mul}
use lib.Dec.{T, eqb, leb, leb→le}
use lib.IntN.{ℤ, nat_abs, ◌*ℤ◌}
use lib.ListN.{get_or}
use mir.Syntax.{w32}
use mir.Val.{SFits}
use Rattle.algebra.specs.Sum.{sum, sumℕ}
use Rattle.algebra.proofs.Order.{abs_neg, within, fits_in}
use Rattle.algebra.proofs.Sum.{sumℕ-le, abs-part}
use Rattle.algebra.proofs.Table.{all_to, all_to-at, and_left, and_right}
use Rattle.meaning.specs.Weights.{first, signed, fold, S, C, cosines, turn, dct2, weight}
use Rattle.meaning.specs.Line.{forward_sum, inverse_sum}
use Rattle.meaning.specs.Shape.{is_size, is_kind, has_line, most_kept}
use Rattle.meaning.proofs.Cases.{size-cases, has-cases, zero-cases, has-line, size_in, pick}

-- the sizes of row i, and of the first `count` weights of column j
abbrev pub row_size : ℕ → ℕ → ℕ → ℕ
row_size kind n i = sumℕ n (λ j. nat_abs (weight kind n i j))

abbrev pub column_size : ℕ → ℕ → ℕ → ℕ → ℕ
column_size kind n count j = sumℕ count (λ i. nat_abs (weight kind n i j))

-- "Biggest row sums of sizes: 242, 475, 935, 1858", and so of columns
abbrev largest_of : ℕ → ℕ
largest_of n = cond (eqb n 4) 242 (cond (eqb n 8) 475 (cond (eqb n 16) 935 1858))

-- those of kind 0: row 0 has 64 at every place, and every column the same sizes in another order
abbrev pub largest_row : ℕ → ℕ → ℕ
largest_row kind n = cond (eqb kind 0) (64 * n) (largest_of n)

abbrev pub largest_column : ℕ → ℕ → ℕ
largest_column kind n =
    cond (eqb kind 0) (cond (eqb n 2) 128 (cond (eqb n 4) 247 (cond (eqb n 8) 479 (cond (eqb n 16) 940 (cond (eqb n 32) 1862 3705))))) (largest_of n)

-- .. over what is kept: of 64 points the first 32 rows
abbrev pub largest_kept : ℕ → ℕ
largest_kept n = cond (eqb n 64) 2595 (largest_column 0 n)

-- ---- every partial sum of a line, of any kind and any size, for weights of size at most W in all and inputs of size at most M
module _ (kind n : ℕ) (x : ℕ → ℤ) (W M : ℕ) where
  pub forward-part : (i : ℕ) → row_size kind n i ≤ W → ((j : ℕ) → j < n → nat_abs (x j) ≤ M) → (k : ℕ) → k ≤ n → nat_abs (sum k (λ j. weight kind n i j *ℤ x j)) ≤ W * M
  forward-part i = abs-part n (λ j. weight kind n i j) x W M

  pub inverse-part : (count j : ℕ) → column_size kind n count j ≤ W → ((i : ℕ) → i < count → nat_abs (x i) ≤ M) → (k : ℕ) → k ≤ count → nat_abs (inverse_sum kind n k x j) ≤ W * M
  unfolding inverse_sum
  inverse-part count j = abs-part count (λ i. weight kind n i j) x W M

-- of 16-bit inputs, by weights of size at most 64 n in all: 2^26 is 64 * 32 * 2^15
pub short : (n : ℕ) {z : ℕ} → is_size n ≡ true → z ≤ 64 * n * 32768 → z ≤ 67108864
short n s h = omega (arith, size_in n s)

-- ---- one test of a kind and a size, carried to each row and column
abbrev sizes_to : ℕ → ℕ → ℕ → ℕ → Bool
sizes_to rows columns kind n = all_to n (λ i. leb (row_size kind n i) rows && leb (column_size kind n n i) columns)

record Sizes (rows columns kind n i : ℕ) : Type 0 where
  row : row_size kind n i ≤ rows
  column : column_size kind n n i ≤ columns

sizes-at : (rows columns kind n : ℕ) → T (sizes_to rows columns kind n) → (i : ℕ) → i < n → Sizes rows columns kind n i
sizes-at rows columns kind n t i h =
    let row = leb (row_size kind n i) rows in
    let column = leb (column_size kind n n i) columns in
    let both = all_to-at n (λ i. leb (row_size kind n i) rows && leb (column_size kind n n i) columns) t i h in
    record {
      row = leb→le (row_size kind n i) rows (and_left row column both);
      column = leb→le (column_size kind n n i) columns (and_right row column both);
    }

module _ (kind n : ℕ) (l : has_line kind n ≡ true) where
  tested : T (sizes_to (largest_row kind n) (largest_column kind n) kind n)
  unfolding sumℕ weight S C dct2 fold first turn cosines
  tested = has-cases (λ kind n. T (sizes_to (largest_row kind n) (largest_column kind n) kind n)) tt tt tt tt tt tt tt tt tt tt tt tt tt tt kind n l

  -- ---- of weights
  -- no row and no column is larger, and the first row is as large
  pub row_largest : (i : ℕ) → i < n → row_size kind n i ≤ largest_row kind n
  row_largest i h = (sizes-at (largest_row kind n) (largest_column kind n) kind n tested i h).row

  pub column_largest : (j : ℕ) → j < n → column_size kind n n j ≤ largest_column kind n
  column_largest j h = (sizes-at (largest_row kind n) (largest_column kind n) kind n tested j h).column

  pub largest_reached : row_size kind n 0 ≡ largest_row kind n
  unfolding sumℕ weight S C dct2 fold first turn cosines
  largest_reached = has-cases (λ kind n. row_size kind n 0 ≡ largest_row kind n) refl refl refl refl refl refl refl refl refl refl refl refl refl refl kind n l

  inside : T (leb (largest_row kind n) (64 * n) && leb (largest_column kind n) (64 * n))
  inside = has-cases (λ kind n. T (leb (largest_row kind n) (64 * n) && leb (largest_column kind n) (64 * n))) tt tt tt tt tt tt tt tt tt tt tt tt tt tt kind n l

  pub row_sizes : (i : ℕ) → i < n → row_size kind n i ≤ 64 * n
  row_sizes i h =
      le_trans (row_largest i h) (leb→le (largest_row kind n) (64 * n) (and_left (leb (largest_row kind n) (64 * n)) (leb (largest_column kind n) (64 * n)) inside))

  pub column_sizes : (j : ℕ) → j < n → column_size kind n n j ≤ 64 * n
  column_sizes j h =
      le_trans (column_largest j h) (leb→le (largest_column kind n) (64 * n) (and_right (leb (largest_row kind n) (64 * n)) (leb (largest_column kind n) (64 * n)) inside))

  -- of the first `count` rows
  kept : (count j : ℕ) → count ≤ n → column_size kind n count j ≤ column_size kind n n j
  kept count j c =
      let rest : count + (n - count) ≡ n = omega arith in
      subst (λ m. column_size kind n count j ≤ column_size kind n m j) rest (sumℕ-le (n - count) count (λ i. nat_abs (weight kind n i j)))

  pub column_sizes_kept : (count j : ℕ) → count ≤ n → j < n → column_size kind n count j ≤ 64 * n
  column_sizes_kept count j c h = le_trans (kept count j c) (column_sizes j h)

  pub column_largest_kept : (count j : ℕ) → count ≤ n → j < n → column_size kind n count j ≤ largest_column kind n
  column_largest_kept count j c h = le_trans (kept count j c) (column_largest j h)

  -- ---- of sums: what inputs of size M give
  module _ (x : ℕ → ℤ) (M : ℕ) where
    pub forward_sum-in : ((j : ℕ) → j < n → nat_abs (x j) ≤ M) → (i : ℕ) → i < n → nat_abs (forward_sum kind n x i) ≤ 64 * n * M
    unfolding forward_sum
    forward_sum-in small i h = forward-part kind n x (64 * n) M i (row_sizes i h) small n (le_refl n)

    pub inverse_sum-in : (count : ℕ) → count ≤ n → ((i : ℕ) → i < count → nat_abs (x i) ≤ M) → (j : ℕ) → j < n → nat_abs (inverse_sum kind n count x j) ≤ 64 * n * M
    inverse_sum-in count c small j h = inverse-part kind n x (64 * n) M count j (column_sizes_kept count j c h) small count (le_refl count)

-- ---- of columns of kind 0 over what is kept: none is larger than 128, 247, 479, 940, 1862 and 2595 at 2, 4, 8, 16, 32 and 64
-- points, and the first one is as large
abbrev pub kept_size : ℕ → ℕ → ℕ
kept_size n j = column_size 0 n (most_kept 0 n) j

kept-tested : (n : ℕ) → has_line 0 n ≡ true → T (all_to n (λ j. leb (kept_size n j) (largest_kept n)))
unfolding sumℕ most_kept weight dct2 turn cosines
kept-tested = zero-cases (λ n. T (all_to n (λ j. leb (kept_size n j) (largest_kept n)))) tt tt tt tt tt tt

pub kept_largest : (n : ℕ) → has_line 0 n ≡ true → (j : ℕ) → j < n → kept_size n j ≤ largest_kept n
kept_largest n l j h = leb→le (kept_size n j) (largest_kept n) (all_to-at n (λ j. leb (kept_size n j) (largest_kept n)) (kept-tested n l) j h)

pub kept_reached : (n : ℕ) → has_line 0 n ≡ true → kept_size n 0 ≡ largest_kept n
unfolding sumℕ most_kept weight dct2 turn cosines
kept_reached = zero-cases (λ n. kept_size n 0 ≡ largest_kept n) refl refl refl refl refl refl

-- 16-bit inputs, at 4 to 32 points
module _ (kind n : ℕ) (k : is_kind kind ≡ true) (s : is_size n ≡ true) (x : ℕ → ℤ) where
  line : has_line kind n ≡ true
  line = has-line kind n k s

  module _ (small : (j : ℕ) → j < n → nat_abs (x j) ≤ 32768) (i : ℕ) (h : i < n) where
    pub forward-part-short : (k : ℕ) → k ≤ n → nat_abs (sum k (λ j. weight kind n i j *ℤ x j)) ≤ 67108864
    forward-part-short k l = short n s (forward-part kind n x (64 * n) 32768 i (row_sizes kind n line i h) small k l)

    pub forward-part-fits : (k : ℕ) → k ≤ n → SFits w32 (sum k (λ j. weight kind n i j *ℤ x j))
    forward-part-fits k l = fits_in tt (within (sum k (λ j. weight kind n i j *ℤ x j)) (forward-part-short k l))

    pub forward_sum-short : nat_abs (forward_sum kind n x i) ≤ 67108864
    unfolding forward_sum
    forward_sum-short = forward-part-short n (le_refl n)

    pub forward_sum-fits : SFits w32 (forward_sum kind n x i)
    unfolding forward_sum
    forward_sum-fits = forward-part-fits n (le_refl n)

  pub inverse_sum-short : (count : ℕ) → count ≤ n → ((i : ℕ) → i < count → nat_abs (x i) ≤ 32768) → (j : ℕ) → j < n → nat_abs (inverse_sum kind n count x j) ≤ 67108864
  inverse_sum-short count c small j h = short n s (inverse_sum-in kind n line x 32768 count c small j h)

  pub inverse_sum-fits : (count : ℕ) → count ≤ n → ((i : ℕ) → i < count → nat_abs (x i) ≤ 32768) → (j : ℕ) → j < n → SFits w32 (inverse_sum kind n count x j)
  inverse_sum-fits count c small j h = fits_in tt (within (inverse_sum kind n count x j) (inverse_sum-short count c small j h))

-- ---- no weight is above 91, of any kind and any size (`weight_most`). The 91 stands at an odd place of kind 0's list, as 64 points read
-- it; where 64/n is even, as at 2 to 32 points (`even-places`), no weight is above 90 (`weight_size`)
abbrev all_low : ℕ → List ℕ → Bool
all_low b [] = true
all_low b (s ∷ ss) = leb s b && all_low b ss

all-low : (b : ℕ) (ss : List ℕ) → T (all_low b ss) → (k : ℕ) → get_or ss k 0 ≤ b
all-low b [] t k = zero-le
all-low b (s ∷ ss) t zero = leb→le s b (and_left (leb s b) (all_low b ss) t)
all-low b (s ∷ ss) t (suc k) = all-low b ss (and_right (leb s b) (all_low b ss) t) k

first-tested : (n : ℕ) → T (all_low 90 (first n))
unfolding first
first-tested n =
    let Passed : List ℕ → Type 0 = λ ss. T (all_low 90 ss) in
    pick Passed (eqb n 4) tt (pick Passed (eqb n 8) tt (pick Passed (eqb n 16) tt (pick Passed (eqb n 32) tt tt)))

pub abs-signed : (b : Bool) (z : ℤ) → nat_abs (signed b z) ≡ nat_abs z
abs-signed true z = abs_neg z
abs-signed false z = refl

fold-size : (l : ℕ) (ss : List ℕ) (m : ℕ) → T (all_low 90 ss) → nat_abs (fold l ss m) ≤ 90
unfolding fold
fold-size l ss m t =
    let k = min (m % l) (l - m % l) in
    rw abs-signed (all-low 90 ss t k)

pub S-size : (n i j : ℕ) → nat_abs (S n i j) ≤ 90
unfolding S
S-size n i j =
    let l = 2 * n + 1 in
    fold-size l (first n) (((2 * i + 1) * (j + 1)) % (2 * l)) (first-tested n)

C-size : (n i j : ℕ) → nat_abs (C n i j) ≤ 90
unfolding C
C-size n i j = rw abs-signed (S-size n i (n - 1 - j))

turn-size : (m : ℕ) → nat_abs (turn m) ≤ 91
unfolding turn cosines
turn-size m =
    let k = min m (256 - m) in
    rw abs-signed (all-low 91 cosines tt (min k (128 - k)))

-- at even places
even-low : (i : ℕ) → i < 33 → get_or cosines (2 * i) 0 ≤ 90
unfolding cosines
even-low i h = leb→le (get_or cosines (2 * i) 0) 90 (all_to-at 33 (λ i. leb (get_or cosines (2 * i) 0) 90) tt i h)

halves : (m c : ℕ) → 2 * min m (c - m) ≡ min (2 * m) (2 * c - 2 * m)
halves m c = omega arith

below : (m : ℕ) → min m (64 - m) < 33
below m = omega arith

turn_even : (m : ℕ) → nat_abs (turn (2 * m)) ≤ 90
unfolding turn
turn_even m =
    let h = min m (128 - m) in
    let even = halves h 64 ∙ ap (λ (k : ℕ). min k (128 - k)) (halves m 128) in
    rw abs-signed (subst (λ (i : ℕ). get_or cosines i 0 ≤ 90) even (even-low (min h (64 - h)) (below h)))

dct2-even : (n : ℕ) → 64 / n % 2 ≡ 0 → (i j : ℕ) → nat_abs (dct2 n i j) ≤ 90
unfolding dct2
dct2-even n e i j =
    let a = i * (2 * j + 1) in
    let q = 64 / n in
    let m = a * q in
    let half : 2 * (q / 2) ≡ q = omega arith in
    let even : m ≡ 2 * (a * (q / 2)) = ap (λ (k : ℕ). a * k) (sym half) ∙ mul_left_comm a 2 (q / 2) in
    let turned : 2 * (m / 2 % 128) ≡ m % 256 = omega (arith, mod-mul m {m = 128} {c = 2} (omega arith) (omega arith), even, mul-mod_right 2 (a * (q / 2))) in
    subst (λ (k : ℕ). nat_abs (turn k) ≤ 90) turned (turn_even (m / 2 % 128))

-- what bounds kind 0 bounds all, from 90 on, since no weight of kinds 1 and 2 is above 90
weight-low : (b : ℕ) → 90 ≤ b → (kind n i j : ℕ) → nat_abs (dct2 n i j) ≤ b → nat_abs (weight kind n i j) ≤ b
unfolding weight
weight-low b h kind n i j d =
    let Low : ℤ → Type 0 = λ z. nat_abs z ≤ b in
    pick Low (eqb kind 1) (le_trans (S-size n i j) h) (pick Low (eqb kind 2) (le_trans (C-size n i j) h) (pick Low (eqb kind 0) d zero-le))

pub weight_most : (kind n i j : ℕ) → nat_abs (weight kind n i j) ≤ 91
unfolding dct2
weight_most kind n i j = weight-low 91 (omega arith) kind n i j (turn-size (i * (2 * j + 1) * (64 / n) % 256))

pub weight_size : (kind n : ℕ) → 64 / n % 2 ≡ 0 → (i j : ℕ) → nat_abs (weight kind n i j) ≤ 90
weight_size kind n e i j = weight-low 90 (le_refl 90) kind n i j (dct2-even n e i j)

pub even-places : (n : ℕ) → is_size n ≡ true → 64 / n % 2 ≡ 0
even-places = size-cases (λ n. 64 / n % 2 ≡ 0) refl refl refl refl
