-- The numbers before k are copied. Assumes nothing.
use Rattle.algebra.specs.Lists.{at}
use Rattle.algebra.proofs.Lists.{Filled}
use Rattle.stage_weights.proofs.front.Given as goal

abbrev pub invariant-loop-k : goal.invariant-loop-k
invariant-loop-k l = Filled 0 l.k l.u l.initial.u (at l.t)
