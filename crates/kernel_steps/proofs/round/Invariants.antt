use Rattle.std.proofs.Common.{◌+◌}
use Rattle.algebra.specs.Lists.{at}
use Rattle.kernel_steps.specs.Written.{WroteFrom, floor}
use Rattle.kernel_steps.proofs.round.Given as goal

abbrev pub invariant-loop-j : goal.invariant-loop-j
invariant-loop-j l = WroteFrom l.o l.j l.r l.initial.r (λ j. floor l.shift (at l.y (l.from + j)))
