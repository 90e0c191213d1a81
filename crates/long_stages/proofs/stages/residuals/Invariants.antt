-- The lines before y are written, and what stands after them is as it was. Assumes nothing.
use Rattle.algebra.specs.Shift.{nearest}
use Rattle.algebra.proofs.Lists.{Rows}
use Rattle.long_stages.specs.Work.{row_at}
use Rattle.long_stages.proofs.stages.residuals.Given as goal

abbrev pub invariant-loop-y : goal.invariant-loop-y
invariant-loop-y l = Rows l.w l.y (λ x y. nearest l.last (row_at l.t l.w l.m l.columns l.pairs x y)) l.out l.initial.out
