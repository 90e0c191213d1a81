use Rattle.std.proofs.Common.{◌+ℤ◌}
use Rattle.algebra.specs.Lists.{at}
use Rattle.kernel_steps.specs.Written.{WroteFrom}
use Rattle.kernel_steps.proofs.lift.Given as goal

abbrev pub invariant-loop-j : goal.invariant-loop-j
invariant-loop-j l = WroteFrom 0 l.j l.e l.initial.e (λ j. at l.initial.e j +ℤ l.half)
