-- No sum of the stage leaves 32 bits, and no partial sum does: 470 * 2^R bounds it, and R is 20 or less. Assumes nothing.
use mathlib.Core.Path.{subst}
use mathlib.Core.Bool.{Bool, true, false, cond, ◌&&◌, ◌||◌}
use Prim.Native.Nat.{ℕ, ◌*◌, ◌^◌, ◌≤◌, ◌<◌}
use native.Mathlib.Nat.{le_refl, le_trans, mul-le-mul, mul-le-mul_right}
use native.Mathlib.Omega.{arith}
use lib.Dec.{T, eqb, ltb, ltb→lt}
use lib.IntN.{ℤ, pos, nat_abs, ◌+ℤ◌, ◌*ℤ◌, *ℤ_comm}
use lib.ListN.{get_or}
use lib.Pow.{pow_mono}
use mir.Syntax.{w32}
use mir.Val.{SFits}
use Rattle.algebra.specs.Sum.{sum}
use Rattle.algebra.proofs.Order.{abs-add}
use Rattle.algebra.proofs.Sum.{sum-cong}
use Rattle.algebra.proofs.Table.{all_to, all_to-at, and_left, and_right}
use Rattle.algebra.proofs.Word.{small}
use Rattle.lfnst_tables.specs.Lfnst.{outputs_of, matrix_of, lfnst}
use Rattle.lfnst_tables.proofs.Sizes.{column-part}
use Rattle.lfnst.specs.LowFrequency.{order, input, inputs, is_wide}
use Rattle.lfnst.proofs.Summing.{most}

-- every input is one of the corner's
abbrev pub column : ℕ → ℕ
column i = (get_or order i (0, 0)).0

abbrev pub row : ℕ → ℕ
row i = (get_or order i (0, 0)).1

abbrev in_corner : ℕ → Bool
in_corner i = ltb (column i) 4 && ltb (row i) 4

tested : T (all_to 16 in_corner)
unfolding order
tested = tt

pub from-corner : (i : ℕ) → i < 16 → (column i < 4) × (row i < 4)
from-corner i l =
    let t : T (in_corner i) = all_to-at 16 in_corner tested i l in
    (ltb→lt (column i) 4 (and_left (ltb (column i) 4) (ltb (row i) 4) t), ltb→lt (row i) 4 (and_right (ltb (column i) 4) (ltb (row i) 4) t))

module _ (c : ℕ → ℕ → ℤ) (M : ℕ) (h : (x y : ℕ) → x < 4 → y < 4 → nat_abs (c x y) ≤ M) where
  input-size : (i : ℕ) → i < 16 → nat_abs (input c i) ≤ M
  unfolding input
  input-size i l = let p = from-corner i l in h (column i) (row i) p.0 p.1

pub at-most-16 : (width height : ℕ) → inputs width height ≤ 16
unfolding inputs
at-most-16 width height = pick ((eqb width 4 && eqb height 4) || (eqb width 8 && eqb height 8))
  where
    pick : (b : Bool) → cond b 8 16 ≤ 16
    pick true = omega arith
    pick false = omega arith

module _ (width height index set reach : ℕ) (c : ℕ → ℕ → ℤ) (some : 1 ≤ index) (two : index ≤ 2) (sets : set ≤ 3) (h : (x y : ℕ) → x < 4 → y < 4 → nat_abs (c x y) ≤ 2 ^ reach)
    (j : ℕ) (l : j < outputs_of (is_wide width height)) (k : ℕ) (few : k ≤ inputs width height) where
  abbrev part : ℤ
  part = sum k (λ i. input c i *ℤ lfnst set index (is_wide width height) i j)

  -- the first k terms
  pub low_part : nat_abs part ≤ 470 * 2 ^ reach
  low_part =
      let wide = is_wide width height in
      let m : matrix_of set index < 8 = omega arith in
      subst (λ (z : ℤ). nat_abs z ≤ 470 * 2 ^ reach) (sum-cong k _ _ (λ i p. *ℤ_comm (lfnst set index wide i j) (input c i)))
      (le_trans (column-part wide m l (input c) (2 ^ reach) (input-size c (2 ^ reach) h) k (le_trans few (at-most-16 width height))) (mul-le-mul_right (2 ^ reach) (most wide)))

  -- .. and with what it is rounded by
  pub low-sum-fits : reach ≤ 20 → SFits w32 part × SFits w32 (part +ℤ pos 64)
  low-sum-fits short =
      let q : 470 * 2 ^ reach ≤ 470 * 1048576 = mul-le-mul (le_refl 470) (pow_mono {j = 20} short) in (
        small {w = w32} {B = 492830720} (omega arith) (omega (arith, low_part)),
        small {w = w32} {B = 492830784} (omega arith) (omega (arith, low_part, abs-add part (pos 64))),
      )
