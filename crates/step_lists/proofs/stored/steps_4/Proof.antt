-- `stored::steps_4`: the numbers are those of the list, computed. Assumes nothing.
use mathlib.Core.Path.{refl}
use Rattle.steps.specs.Numbers.{encode}
use Rattle.steps.specs.Lists.{list4, steps4}
use Rattle.step_lists.proofs.stored.steps_4.Statement.{statement}
use Rattle.step_lists.proofs.stored.steps_4.Tie as tie

returns : tie.Need-returns
unfolding encode list4 steps4
returns c = refl

pub steps_4_spec : {M : Type 1} → statement M
steps_4_spec = tie.close (tie.spec returns)
