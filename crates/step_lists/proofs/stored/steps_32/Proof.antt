-- `stored::steps_32`: the numbers are those of the list, computed. Assumes nothing.
use mathlib.Core.Path.{refl}
use Rattle.steps.specs.Numbers.{encode}
use Rattle.steps.specs.Lists.{list32, steps32}
use Rattle.step_lists.proofs.stored.steps_32.Statement.{statement}
use Rattle.step_lists.proofs.stored.steps_32.Tie as tie

returns : tie.Need-returns
unfolding encode list32 steps32
returns c = refl

pub steps_32_spec : {M : Type 1} → statement M
steps_32_spec = tie.close (tie.spec returns)
