-- The pairs before x are written. Assumes nothing.
use Rattle.std.proofs.Common.{◌*◌}
use Rattle.algebra.proofs.Lists.{Filled}
use Rattle.layout.specs.Zip.{zipped_at}
use Rattle.layout.proofs.zip.zip_row.Given as goal

abbrev pub invariant-loop-x : goal.invariant-loop-x
invariant-loop-x l = Filled 0 (2 * l.x) l.z l.initial.z (zipped_at l.c l.a l.w)
