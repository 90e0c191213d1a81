-- The first 2 * k products are summed. Assumes nothing.
use mathlib.Core.Path.{◌≡◌}
use Prim.Native.Nat.{◌*◌, ◌≤◌}
use lib.IntN.{nat_abs}
use Rattle.algebra.specs.Sum.{sum}
use Rattle.long_stages.proofs.Summing.{term}
use Rattle.long_stages.proofs.sums.dot.Given as goal

abbrev pub invariant-loop-k : goal.invariant-loop-k
invariant-loop-k l = (l.sum ≡ sum (2 * l.k) (term l.t l.o l.apart l.v l.p l.gap)) × (nat_abs l.sum ≤ l.k * 140737488355328)
