use Rattle.std.proofs.Common.{◌+◌}
use Rattle.algebra.specs.Clip.{clip}
use Rattle.algebra.specs.Lists.{at}
use Rattle.meaning.specs.Plan.{short_range}
use Rattle.kernel_steps.specs.Written.{WroteFrom, floor}
use Rattle.kernel_steps.proofs.put.Given as goal

abbrev pub invariant-loop-j : goal.invariant-loop-j
invariant-loop-j l = WroteFrom l.o l.j l.m l.initial.m (λ j. clip short_range (floor 7 (at l.y (l.from + j))))
