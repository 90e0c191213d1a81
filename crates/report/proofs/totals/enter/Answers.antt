use Rattle.report.specs.Totals.{entered}
use Rattle.report.proofs.totals.enter.Goals as goal

pub returns : goal.returns
unfolding entered
returns c = rw (c.count-3.ensures, c.max.ensures, c.count-2.ensures, c.count.ensures)
