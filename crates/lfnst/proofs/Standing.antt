-- Where values stand, by cases of their column and row. Assumes nothing.
use mathlib.Core.Path.{◌≡◌, refl}
use mathlib.Core.Bool.{Bool, true, false, cond}
use Prim.Native.Nat.{ℕ, ◌+◌, ◌*◌, ◌-◌, ◌≤◌, ◌<◌}
use native.Mathlib.Omega.{arith}
use borrow.Author.Tests.{lt-ltb, le-ltb}
use lib.Dec.{T, ltb, ltb→lt}
use lib.IntN.{ℤ, pos}
use Rattle.algebra.proofs.Table.{all_to, all_to-at}
use Rattle.lfnst_tables.specs.Lfnst.{outputs_of}
use Rattle.lfnst.specs.LowFrequency.{is_written, row_by_row, standing}

abbrev pub rowed : Bool → (ℕ → ℤ) → ℕ → ℕ → ℤ
rowed wide v x y = cond (is_written wide x y) (v (row_by_row wide x y)) (pos 0)

module _ (v : ℕ → ℤ) (x y : ℕ) where
  -- four rows of 8
  pub wide-above : x < 8 → y < 4 → v (x + 8 * y) ≡ rowed true v x y
  unfolding is_written row_by_row
  wide-above h l =
      let m : y < 8 = omega arith in
      rw (lt-ltb x 8 h, lt-ltb y 8 m, lt-ltb y 4 l) refl

  -- four rows of 4
  pub wide_below : x < 4 → 4 ≤ y → y < 8 → v (32 + x + 4 * (y - 4)) ≡ rowed true v x y
  unfolding is_written row_by_row
  wide_below h l m =
      let k : x < 8 = omega arith in
      rw (lt-ltb x 8 k, lt-ltb y 8 m, le-ltb y 4 l, lt-ltb x 4 h) refl

  -- the last 4 by 4
  pub wide-last : 4 ≤ x → 4 ≤ y → x < 8 → y < 8 → pos 0 ≡ rowed true v x y
  unfolding is_written
  wide-last h l k m = rw (lt-ltb x 8 k, lt-ltb y 8 m, le-ltb y 4 l, le-ltb x 4 h) refl

  pub narrow-first : x < 4 → y < 4 → v (x + 4 * y) ≡ rowed false v x y
  unfolding is_written row_by_row
  narrow-first h l = rw (lt-ltb x 4 h, lt-ltb y 4 l) refl

  pub narrow-right : 4 ≤ x → pos 0 ≡ rowed false v x y
  unfolding is_written
  narrow-right h = rw (le-ltb x 4 h) refl

  pub narrow_below : x < 4 → 4 ≤ y → pos 0 ≡ rowed false v x y
  unfolding is_written
  narrow_below h l = rw (lt-ltb x 4 h, le-ltb y 4 l) refl

-- ---- every value that stands somewhere is one of those that there are
abbrev in_outputs : Bool → ℕ → ℕ → Bool
in_outputs wide x y = cond (is_written wide x y) (ltb (row_by_row wide x y) (outputs_of wide)) true

tested : (wide : Bool) → T (all_to 8 (λ x. all_to 8 (λ y. in_outputs wide x y)))
unfolding is_written row_by_row
tested true = tt
tested false = tt

module _ (wide : Bool) {f g : ℕ → ℤ} (e : (j : ℕ) → j < outputs_of wide → f j ≡ g j) where
  rowed-same : (x y : ℕ) → x < 8 → y < 8 → rowed wide f x y ≡ rowed wide g x y
  rowed-same x y h l = by (is_written wide x y) (all_to-at 8 (λ y. in_outputs wide x y) (all_to-at 8 (λ x. all_to 8 (λ y. in_outputs wide x y)) (tested wide) x h) y l)
    where
      by : (b : Bool) → T (cond b (ltb (row_by_row wide x y) (outputs_of wide)) true) → cond b (f (row_by_row wide x y)) (pos 0) ≡ cond b (g (row_by_row wide x y)) (pos 0)
      by true t = e (row_by_row wide x y) (ltb→lt (row_by_row wide x y) (outputs_of wide) t)
      by false t = refl

  pub standing-same : (transposed : Bool) (x y : ℕ) → x < 8 → y < 8 → standing wide transposed f x y ≡ standing wide transposed g x y
  unfolding standing
  standing-same true x y h l = rowed-same y x l h
  standing-same false x y h l = rowed-same x y h l
