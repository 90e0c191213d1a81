-- `middles` meets its contract: the rows before y are done and counted, and what stands after them is as it was. Assumes nothing.
use native.Mathlib.Omega.{arith}
use mathlib.Core.Path.{◌≡◌, ap, ◌∙◌}
use Prim.Native.Nat.{ℕ, ◌+◌, ◌*◌, ◌-◌, ◌≤◌}
use lib.ListN.{length, take, drop}
use lib.IntN.{ℤ}
use Rattle.algebra.specs.Sum.{sumℕ}
use Rattle.algebra.specs.Lists.{tabulate}
use Rattle.algebra.proofs.Sum.{sumℕ-next}
use Rattle.algebra.proofs.Lists.{rows_none, rows_next, row_in, part_in}
use Rattle.meaning.specs.Plan.{range_of}
use Rattle.meaning.specs.Inverse.{rounded, middle, railed}
use Rattle.meaning.proofs.NoRails.{count-in}
use Rattle.long_stages.specs.Work.{column_at, rail_of}
use Rattle.long_stages.proofs.Rails.{none_yet, sum-in}
use Rattle.long_stages.proofs.stages.middles.Goals as goal
use Rattle.long_stages.proofs.stages.middles.Goals.{After-middle_row-rails}

-- what the body has made of row y
module _ (c : After-middle_row-rails) where
  abbrev e : ℕ → ℕ → ℤ
  e x y = column_at c.args.t.now c.args.h c.args.c.now c.args.w c.args.pairs x y

  -- its rails, at most 32
  abbrev row : ℕ → ℕ
  row y = sumℕ c.args.columns (λ x. rail_of c.args.reach (e x y))

  row-in-32 : (y : ℕ) → row y ≤ 32
  row-in-32 y = omega (arith, c.requires.0.narrow, sum-in c.args.columns (λ x. rail_of c.args.reach (e x y)) 1 (λ x. count-in (railed (rounded (e x y)) (middle (range_of c.args.reach) (e x y)))))

  -- how long its stretch is
  stretch : let k = c.loop-y.y * c.args.columns in length (take (k + c.args.columns - k) (drop k c.loop-y.m)) ≡ c.args.columns
  stretch = part_in c.loop-y.m (c.loop-y.y * c.args.columns) c.args.columns (omega (arith, c.requires.1, row_in c.args.columns c.loop-y-test.true))

  counted : c.middle_row-rails.result ≡ row c.loop-y.y
  counted = c.middle_row-rails.ensures.1 ∙ ap (λ (n : ℕ). sumℕ n (λ x. rail_of c.args.reach (e x c.loop-y.y))) stretch

pub loop-y-init : goal.loop-y-init
loop-y-init c = (rows_none _ _ _, none_yet (λ y. sumℕ c.args.columns (λ x. rail_of c.args.reach (column_at c.args.t.now c.args.h c.args.c.now c.args.w c.args.pairs x y))))

pub overflow_add-rails : goal.overflow_add-rails
overflow_add-rails c =
    let M = (goal.at.overflow_add-rails c).After-middle_row-rails in
    omega (arith, c.loop-y.invariant.1, sum-in c.loop-y.y (row M) 32 (row-in-32 M), c.requires.0.low, counted M, row-in-32 M c.loop-y.y)

pub loop-y-preserved : goal.loop-y-preserved
loop-y-preserved c =
    let M = (goal.at.loop-y-preserved c).After-middle_row-rails in (
      rows_next c.loop-y.invariant.0 (c.middle_row-rails.ensures.0 ∙ ap (λ (n : ℕ). tabulate n (λ x. middle (range_of c.args.reach) (e M x c.loop-y.y))) (stretch M)),
      omega (arith, c.loop-y.invariant.1, counted M, sumℕ-next c.loop-y.y (row M)),
    )
