-- The rows before y are done and counted, and what stands after them is as it was. Assumes nothing.
use mathlib.Core.Path.{◌≡◌}
use Rattle.algebra.specs.Sum.{sumℕ}
use Rattle.algebra.proofs.Lists.{Rows}
use Rattle.meaning.specs.Plan.{range_of}
use Rattle.meaning.specs.Inverse.{middle}
use Rattle.long_stages.specs.Work.{column_at, rail_of}
use Rattle.long_stages.proofs.stages.middles.Given as goal

abbrev pub invariant-loop-y : goal.invariant-loop-y
invariant-loop-y l =
    Rows l.columns l.y (λ x y. middle (range_of l.reach) (column_at l.t l.h l.c l.w l.pairs x y)) l.m l.initial.m
    × (l.rails ≡ sumℕ l.y (λ y. sumℕ l.columns (λ x. rail_of l.reach (column_at l.t l.h l.c l.w l.pairs x y))))
