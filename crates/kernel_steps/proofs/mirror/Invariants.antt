use Rattle.algebra.specs.Lists.{at}
use Rattle.kernel_steps.specs.Written.{Ends}
use Rattle.kernel_steps.proofs.mirror.Given as goal

abbrev pub invariant-loop-j : goal.invariant-loop-j
invariant-loop-j l = Ends l.from l.j l.h (at l.e) (at l.e) l.out l.initial.out
