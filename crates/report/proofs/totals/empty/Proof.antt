-- `empty` meets its contract. Assumes nothing.
use Rattle.std.proofs.Common.{refl}
use Rattle.report.specs.Totals.{empty}
use Rattle.report.proofs.totals.empty.Statement.{statement}
use Rattle.report.proofs.totals.empty.Tie as tie

returns : tie.Need-returns
unfolding empty
returns c = refl

pub empty_spec : {M : Type 1} → statement M
empty_spec = tie.close (tie.spec returns)
