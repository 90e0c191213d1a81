use Rattle.std.proofs.Common.{◌+◌, ◌*◌}
use Rattle.algebra.specs.Lists.{at}
use Rattle.kernel_steps.specs.Written.{Spread, WroteFrom}
use Rattle.kernel_steps.proofs.spread.Given as goal

abbrev pub invariant-loop-y : goal.invariant-loop-y
invariant-loop-y g l = Spread g.row.K l.y l.b l.n (λ j y. at l.e (g.row.K * y + j)) l.r l.initial.r

abbrev pub invariant-loop-j : goal.invariant-loop-j
invariant-loop-j g l = WroteFrom (l.y * l.n + l.b) l.j l.r l.initial.r (λ j. at l.e (g.row.K * l.y + j))
