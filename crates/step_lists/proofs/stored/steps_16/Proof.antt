-- `stored::steps_16`: the numbers are those of the list, computed. Assumes nothing.
use mathlib.Core.Path.{refl}
use Rattle.steps.specs.Numbers.{encode}
use Rattle.steps.specs.Lists.{list16, steps16}
use Rattle.step_lists.proofs.stored.steps_16.Statement.{statement}
use Rattle.step_lists.proofs.stored.steps_16.Tie as tie

returns : tie.Need-returns
unfolding encode list16 steps16
returns c = refl

pub steps_16_spec : {M : Type 1} → statement M
steps_16_spec = tie.close (tie.spec returns)
