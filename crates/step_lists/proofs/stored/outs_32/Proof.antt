-- `stored::outs_32`: the numbers are the list's output cells. Assumes nothing.
use mathlib.Core.Path.{refl}
use Rattle.steps.specs.Lists.{list32}
use Rattle.step_lists.proofs.stored.outs_32.Statement.{statement}
use Rattle.step_lists.proofs.stored.outs_32.Tie as tie

returns : tie.Need-returns
unfolding list32
returns c = refl

pub outs_32_spec : {M : Type 1} → statement M
outs_32_spec = tie.close (tie.spec returns)
