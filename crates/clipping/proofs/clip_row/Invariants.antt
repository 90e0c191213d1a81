use Rattle.std.proofs.Common.{◌+◌}
use Rattle.algebra.specs.Clip.{clip}
use Rattle.algebra.specs.Lists.{at}
use Rattle.meaning.specs.Plan.{short_range}
use Rattle.kernel_steps.specs.Written.{WroteFrom}
use Rattle.clipping.proofs.clip_row.Given as goal

abbrev pub invariant-loop-k : goal.invariant-loop-k
invariant-loop-k l = WroteFrom l.o l.k l.room l.initial.room (λ k. clip short_range (at l.c (l.o + k)))
