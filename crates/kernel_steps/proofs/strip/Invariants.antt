use Rattle.std.proofs.Common.{◌+◌, ◌*◌, ◌/◌, ◌%◌}
use Rattle.algebra.specs.Lists.{at}
use Rattle.kernel_steps.specs.Written.{WroteFrom}
use Rattle.kernel_steps.proofs.strip.Given as goal

abbrev pub invariant-loop-y : goal.invariant-loop-y
invariant-loop-y g l = WroteFrom 0 (g.row.K * l.y) l.b l.initial.b (λ k. at l.c (k / g.row.K * l.w + l.x0 + k % g.row.K))

abbrev pub invariant-loop-x : goal.invariant-loop-x
invariant-loop-x g l = WroteFrom (g.row.K * l.y) l.x l.b l.initial.b (λ x. at l.c (l.y * l.w + l.x0 + x))
