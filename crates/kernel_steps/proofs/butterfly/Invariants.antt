use Rattle.std.proofs.Common.{◌+ℤ◌, ◌-ℤ◌}
use Rattle.algebra.specs.Lists.{at}
use Rattle.kernel_steps.specs.Written.{Ends}
use Rattle.kernel_steps.proofs.butterfly.Given as goal

abbrev pub invariant-loop-j : goal.invariant-loop-j
invariant-loop-j l = Ends l.from l.j l.h (λ j. at l.e j +ℤ at l.o j) (λ j. at l.e j -ℤ at l.o j) l.out l.initial.out
