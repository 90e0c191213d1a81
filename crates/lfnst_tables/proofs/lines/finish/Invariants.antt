-- The values before j are written, and the sums from j on are as they were.
use Rattle.algebra.specs.Lists.{at}
use Rattle.meaning.specs.Plan.{range_of}
use Rattle.meaning.specs.Inverse.{middle}
use Rattle.kernel_steps.specs.Written.{WroteFrom}
use Rattle.lfnst_tables.proofs.lines.finish.Given as goal

abbrev pub invariant-loop-j : goal.invariant-loop-j
invariant-loop-j l = WroteFrom 0 l.j l.v l.initial.v (λ j. middle (range_of l.reach) (at l.initial.v j))
