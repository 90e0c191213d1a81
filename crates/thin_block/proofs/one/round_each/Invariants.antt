-- The numbers before k are rounded. Assumes nothing.
use Rattle.algebra.specs.Shift.{nearest}
use Rattle.algebra.specs.Lists.{at}
use Rattle.algebra.proofs.Lists.{Filled}
use Rattle.thin_block.proofs.one.round_each.Given as goal

abbrev pub invariant-loop-k : goal.invariant-loop-k
invariant-loop-k l = Filled 0 l.k l.out l.initial.out (λ k. nearest l.s (at l.initial.out k))
