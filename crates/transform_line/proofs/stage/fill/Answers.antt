-- `fill` meets its contract: the places before i hold the number. Assumes nothing.
use native.Mathlib.Omega.{arith}
use mathlib.Core.Path.{◌≡◌, refl, ap, ◌∙◌}
use lib.ListN.{length}
use lib.IntN.{ℤ}
use mir.Syntax.{w32}
use mir.ValLaws.{to_z-of_z}
use Rattle.algebra.specs.Lists.{tabulate}
use Rattle.algebra.proofs.Lists.{fill_none, fill-first, filled-to}
use Rattle.transform_line.proofs.stage.fill.Goals as goal

pub loop-i-init : goal.loop-i-init
loop-i-init c = fill_none 0 _ _

pub loop-i-preserved : goal.loop-i-preserved
loop-i-preserved c = fill-first _ c.loop-i-test.true c.loop-i.invariant refl

pub returns : goal.returns
returns c = filled-to refl (omega arith) (omega arith) c.loop-i.invariant ∙ ap (λ (z : ℤ). tabulate (length c.args.r.now) (λ _. z)) (to_z-of_z w32 c.args.v c.ranges.v)
