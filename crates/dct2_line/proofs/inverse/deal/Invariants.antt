-- The inputs before i are dealt. Assumes nothing.
use Rattle.std.proofs.Common.{◌+◌, ◌*◌}
use Rattle.algebra.specs.Lists.{at}
use Rattle.algebra.proofs.Lists.{Filled}
use Rattle.dct2_line.proofs.inverse.deal.Given as goal

abbrev pub invariant-loop-i : goal.invariant-loop-i
invariant-loop-i l = Filled 0 l.i l.a l.initial.a (λ i. at l.x (l.from + i * l.step))
