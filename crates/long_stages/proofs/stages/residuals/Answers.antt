-- `residuals` meets its contract: the lines before y are written, and what stands after them is as it was. Assumes nothing.
use Rattle.algebra.proofs.Lists.{rows_none, rows_next}
use Rattle.long_stages.proofs.stages.residuals.Goals as goal

pub loop-y-init : goal.loop-y-init
loop-y-init c = rows_none _ _ _

pub loop-y-preserved : goal.loop-y-preserved
loop-y-preserved c = rows_next c.loop-y.invariant c.residual_row.ensures
