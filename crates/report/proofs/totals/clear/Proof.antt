-- `clear` meets its contract. Assumes nothing.
use Rattle.std.proofs.Common.{refl}
use Rattle.report.specs.Totals.{empty}
use Rattle.report.proofs.totals.clear.Statement.{statement}
use Rattle.report.proofs.totals.clear.Tie as tie

returns : tie.Need-returns
unfolding empty
returns c = refl

pub clear_spec : {M : Type 1} → statement M
clear_spec = tie.close (tie.spec returns)
