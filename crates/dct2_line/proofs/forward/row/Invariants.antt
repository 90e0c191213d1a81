-- The sum of the products before j. Assumes nothing.
use Rattle.std.proofs.Common.{◌≡◌, ◌+◌, ◌*◌, ◌*ℤ◌}
use Rattle.algebra.specs.Sum.{sum}
use Rattle.algebra.specs.Lists.{at}
use Rattle.dct2_line.proofs.forward.row.Given as goal

abbrev pub invariant-loop-j : goal.invariant-loop-j
invariant-loop-j l = l.total ≡ sum l.j (λ j. at l.t (2 * j + l.o) *ℤ at l.v j)
