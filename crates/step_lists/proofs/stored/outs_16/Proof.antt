-- `stored::outs_16`: the numbers are the list's output cells. Assumes nothing.
use mathlib.Core.Path.{refl}
use Rattle.steps.specs.Lists.{list16}
use Rattle.step_lists.proofs.stored.outs_16.Statement.{statement}
use Rattle.step_lists.proofs.stored.outs_16.Tie as tie

returns : tie.Need-returns
unfolding list16
returns c = refl

pub outs_16_spec : {M : Type 1} → statement M
outs_16_spec = tie.close (tie.spec returns)
