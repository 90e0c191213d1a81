-- `stored::outs_4`: the numbers are the list's output cells. Assumes nothing.
use mathlib.Core.Path.{refl}
use Rattle.steps.specs.Lists.{list4}
use Rattle.step_lists.proofs.stored.outs_4.Statement.{statement}
use Rattle.step_lists.proofs.stored.outs_4.Tie as tie

returns : tie.Need-returns
unfolding list4
returns c = refl

pub outs_4_spec : {M : Type 1} → statement M
outs_4_spec = tie.close (tie.spec returns)
