-- The rows of pairs before k are done, and what stands after them is as it was. Assumes nothing.
use Rattle.std.proofs.Common.{◌*◌}
use Rattle.algebra.proofs.Lists.{Rows}
use Rattle.layout.specs.Zip.{zipped_at}
use Rattle.layout.proofs.zip.zip.Given as goal

abbrev pub invariant-loop-k : goal.invariant-loop-k
invariant-loop-k l = Rows (2 * l.n) l.k (λ q k. zipped_at l.c (2 * k * l.w) l.w q) l.z l.initial.z
