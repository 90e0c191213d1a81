-- The numbers before k are read.
use Rattle.std.proofs.Common.{◌/◌, ◌%◌}
use Rattle.algebra.proofs.Lists.{Filled}
use Rattle.lfnst.specs.Work.{corner_at}
use Rattle.lfnst.proofs.corner.read_corner.Given as goal

abbrev pub invariant-loop-k : goal.invariant-loop-k
invariant-loop-k l = Filled 0 l.k l.corner l.initial.corner (λ k. corner_at l.w l.columns l.rows l.numbers (k % 4) (k / 4))
