-- The places before k are written. Assumes nothing.
use Rattle.shared_steps.specs.Steps.{FilledTo, joined_sums}
use Rattle.shared_steps.proofs.spread.spread.Given as goal

abbrev pub invariant-loop-k : goal.invariant-loop-k
invariant-loop-k l = FilledTo l.back l.n l.k (joined_sums l.p l.q l.a l.c l.d) l.y
