-- The coefficients before i are read, and are the same in 16 bits.
use Rattle.std.proofs.Common.{◌+◌, ◌*◌}
use Rattle.algebra.specs.Lists.{at}
use Rattle.algebra.proofs.Lists.{Filled}
use Rattle.lfnst.specs.LowFrequency.{input}
use Rattle.lfnst.proofs.Reading.{Ordered}
use Rattle.lfnst.proofs.corner.short_in_order.Given as goal

abbrev pub invariant-loop-i : goal.invariant-loop-i
invariant-loop-i l = Filled 0 l.i l.u l.initial.u (input (λ x y. at l.corner (x + 4 * y))) × Ordered l.order
