-- The outputs before 2i are written. Assumes nothing.
use Rattle.std.proofs.Common.{◌+◌, ◌*◌}
use Rattle.algebra.specs.Lists.{at}
use Rattle.algebra.proofs.Lists.{Filled}
use Rattle.meaning.specs.Line.{forward_sum}
use Rattle.dct2_line.proofs.forward.weave.Given as goal

abbrev pub invariant-loop-i : goal.invariant-loop-i
invariant-loop-i l = Filled 0 (2 * l.i) l.out l.initial.out (forward_sum 0 (l.h + l.h) (at l.x))
