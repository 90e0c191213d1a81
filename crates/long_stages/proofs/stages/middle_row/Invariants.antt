-- The columns before x are done and counted. Assumes nothing.
use mathlib.Core.Path.{◌≡◌}
use Rattle.algebra.specs.Sum.{sumℕ}
use Rattle.algebra.proofs.Lists.{Filled}
use Rattle.meaning.specs.Plan.{range_of}
use Rattle.meaning.specs.Inverse.{middle}
use Rattle.long_stages.specs.Work.{column_at, rail_of}
use Rattle.long_stages.proofs.stages.middle_row.Given as goal

abbrev pub invariant-loop-x : goal.invariant-loop-x
invariant-loop-x l =
    Filled 0 l.x l.m l.initial.m (λ x. middle (range_of l.reach) (column_at l.t l.h l.c l.w l.pairs x l.y))
    × (l.rails ≡ sumℕ l.x (λ x. rail_of l.reach (column_at l.t l.h l.c l.w l.pairs x l.y)))
