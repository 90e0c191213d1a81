-- The outputs before i are written. Assumes nothing.
use Rattle.algebra.specs.Lists.{at}
use Rattle.algebra.proofs.Lists.{Filled}
use Rattle.steps.specs.Numbers.{cell_of}
use Rattle.step_run.proofs.run.hand_over.Given as goal

abbrev pub invariant-loop-i : goal.invariant-loop-i
invariant-loop-i l = Filled 0 l.i l.y l.initial.y (λ k. at l.values (cell_of (at l.outs k)))
