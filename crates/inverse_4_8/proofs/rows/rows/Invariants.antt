use Rattle.std.proofs.Common.{◌*◌}
use Rattle.algebra.proofs.Lists.{Filled}
use Rattle.inverse_4_8.proofs.Weighing.{four_output}
use Rattle.inverse_4_8.proofs.rows.rows.Given as goal

-- the rows before y are written
abbrev pub invariant-loop-y : goal.invariant-loop-y
invariant-loop-y l = Filled 0 (4 * l.y) l.r l.initial.r (four_output l.m l.half l.shift)
