-- A rail count of 0 says that the clip altered no middle value of the kept columns, over all h rows, in both directions: over
-- any plan. Assumes nothing.
--   no-rails:        rails p c ≡ 0 gives Unaltered p c
--   rails-no:        Unaltered p c gives rails p c ≡ 0
--   inner-unaltered: Inner p c, no middle value at either end of the range, gives Unaltered p c
-- A middle value counts once at most (count-in).
use mathlib.Core.Path.{◌≡◌, refl, ◌∙◌}
use mathlib.Core.Bool.{Bool, true, false, not}
use mathlib.Core.List.{List}
use Prim.Native.Nat.{ℕ, ◌≤◌, ◌<◌}
use native.Mathlib.Omega.{arith}
use borrow.Author.Tests.{lt-ltb}
use lib.Dec.{T}
use lib.IntN.{ℤ}
use Rattle.algebra.specs.Sum.{sumℕ}
use Rattle.algebra.specs.Equal.{eq_z}
use Rattle.algebra.proofs.Sum.{sum-zero, zero-sum}
use Rattle.algebra.proofs.Table.{eq_z→eq, eq→eq_z}
use Rattle.algebra.proofs.Clip.{clip-inner}
use Rattle.meaning.specs.Plan.{Plan}
use Rattle.meaning.specs.Inverse.{column_sum, rounded, middle, middle_at, railed, count, rails}

-- no middle value of the kept columns, over all h rows, at either end
abbrev pub Inner : Plan → List ℤ → Type 0
Inner p c =
    (x y : ℕ) → x < p.columns → y < p.height → (middle_at p c x y ≡ p.range.low → ⊥) × (middle_at p c x y ≡ p.range.high → ⊥)

-- the clip altered none of them
abbrev pub Unaltered : Plan → List ℤ → Type 0
Unaltered p c = (x y : ℕ) → x < p.columns → y < p.height → middle_at p c x y ≡ rounded (column_sum p c x y)

-- ---- what counts
same : (t : Bool) → count (not t) ≡ 0 → T t
same true e = tt
same false e = absurd (omega arith)

pub none-counts : (t : Bool) → T t → count (not t) ≡ 0
none-counts true t = refl
none-counts false t = absurd t

pub count-in : (b : Bool) → count b ≤ 1
count-in true = omega arith
count-in false = omega arith

module _ (p : Plan) (c : List ℤ) where
  abbrev counts : ℕ → ℕ → Bool
  counts x y = railed (rounded (column_sum p c x y)) (middle_at p c x y)

  pub no-rails : rails p c ≡ 0 → Unaltered p c
  unfolding rails
  no-rails e x y hx hy =
      let before = rounded (column_sum p c x y) in
      let after = middle_at p c x y in
      let column = sum-zero p.columns (λ x. sumℕ p.height (λ y. count (counts x y))) e x hx in
      let one = sum-zero p.height (λ y. count (counts x y)) column y hy in
      eq_z→eq after before (same (eq_z after before) one)

  pub rails-no : Unaltered p c → rails p c ≡ 0
  unfolding rails
  rails-no u =
      zero-sum p.columns (λ x. sumℕ p.height (λ y. count (counts x y)))
      (λ x hx. zero-sum p.height (λ y. count (counts x y))
      (λ y hy. let before = rounded (column_sum p c x y) in let after = middle_at p c x y in none-counts (eq_z after before) (eq→eq_z after before (u x y hx hy))))

  -- a kept column's middle value
  middle-kept : (x y : ℕ) → x < p.columns → middle_at p c x y ≡ middle p.range (column_sum p c x y)
  unfolding middle_at
  middle-kept x y h = rw (lt-ltb x p.columns h)

  pub inner-unaltered : Inner p c → Unaltered p c
  inner-unaltered n x y hx hy =
      let m = middle-kept x y hx in
      m ∙ clip-inner p.range (rounded (column_sum p c x y)) (λ e. (n x y hx hy).0 (m ∙ e)) (λ e. (n x y hx hy).1 (m ∙ e))
