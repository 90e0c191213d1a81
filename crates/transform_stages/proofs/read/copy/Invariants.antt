-- The numbers before x are copied. Assumes nothing.
use Prim.Native.Nat.{◌+◌}
use Rattle.algebra.specs.Lists.{at}
use Rattle.algebra.proofs.Lists.{Filled}
use Rattle.transform_stages.proofs.read.copy.Given as goal

abbrev pub invariant-loop-x : goal.invariant-loop-x
invariant-loop-x l = Filled l.p l.x l.room l.initial.room (λ x. at l.c (l.o + x))
