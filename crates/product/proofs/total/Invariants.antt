-- The sum of the pairs before k. Assumes nothing.
use Rattle.std.proofs.Common.{◌≡◌}
use Rattle.algebra.specs.Sum.{sum}
use Rattle.algebra.specs.Lists.{at}
use Rattle.product.proofs.total.Given as goal

abbrev pub invariant-loop-k : goal.invariant-loop-k
invariant-loop-k l = l.sum ≡ sum l.k (at l.s)
