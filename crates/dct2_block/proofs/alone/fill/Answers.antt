use Rattle.std.proofs.Common.{arith, refl, ap, ◌∙◌, length, ℤ}
use mir.Syntax.{w32}
use mir.ValLaws.{to_z-of_z}
use Rattle.algebra.specs.Lists.{tabulate}
use Rattle.algebra.proofs.Lists.{filled-to}
use Rattle.dct2_block.proofs.alone.fill.Goals as goal

pub returns : goal.returns
returns c =
    filled-to refl (omega (arith, c.loop-i.invariant.long)) (omega (arith, c.loop-i.invariant.long)) c.loop-i.invariant
    ∙ ap (λ (z : ℤ). tabulate (length c.args.r.now) (λ _. z)) (to_z-of_z w32 c.args.v c.ranges.v)
