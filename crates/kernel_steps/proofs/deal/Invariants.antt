use Rattle.std.proofs.Common.{◌+◌, ◌*◌}
use Rattle.algebra.specs.Lists.{at}
use Rattle.kernel_steps.specs.Written.{WroteFrom}
use Rattle.kernel_steps.proofs.deal.Given as goal

abbrev pub invariant-loop-i : goal.invariant-loop-i
invariant-loop-i l = WroteFrom 0 l.i l.a l.initial.a (λ i. at l.x (l.from + i * l.step))
