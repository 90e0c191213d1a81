-- The columns before x are written. Assumes nothing.
use Rattle.algebra.specs.Shift.{nearest}
use Rattle.algebra.proofs.Lists.{Filled}
use Rattle.long_stages.specs.Work.{row_at}
use Rattle.long_stages.proofs.stages.residual_row.Given as goal

abbrev pub invariant-loop-x : goal.invariant-loop-x
invariant-loop-x l = Filled 0 l.x l.out l.initial.out (λ x. nearest l.last (row_at l.t l.w l.m l.columns l.pairs x l.y))
