-- The rows before y are written. Assumes nothing.
use Rattle.transform_line.specs.Lines.{two_at}
use Rattle.transform_line.proofs.Points.{TwoDone}
use Rattle.transform_line.proofs.two.rows_of_two.Given as goal

abbrev pub invariant-loop-y : goal.invariant-loop-y
invariant-loop-y l = TwoDone (two_at l.z l.step l.apart l.half l.shift) l.y l.out l.initial.out
