-- `zip_row` meets its contract. Assumes nothing.
use Rattle.std.proofs.Common.{arith, ◌+◌, ap, ◌∙◌}
use mir.Syntax.{w16}
use mir.ValLaws.{to_z-of_z}
use Rattle.algebra.specs.Lists.{at}
use Rattle.algebra.proofs.Lists.{fill_none, filled-to}
use Rattle.layout.proofs.Zipping.{fill-pair, even-at, odd-at}
use Rattle.layout.proofs.zip.zip_row.Goals as goal

pub loop-x-init : goal.loop-x-init
loop-x-init c = fill_none 0 _ _

pub loop-x-preserved : goal.loop-x-preserved
loop-x-preserved c =
    fill-pair c.loop-x.x _ _ (omega (arith, c.requires.1.1)) c.loop-x.invariant
    (to_z-of_z w16 (at c.args.c.now (c.args.a + c.loop-x.x)) (record { sfits = c.z-1.given }) ∙ ap (at c.args.c.now) (even-at c.args.a c.args.w c.loop-x.x))
    (to_z-of_z w16 (at c.args.c.now (c.args.a + c.args.w + c.loop-x.x)) (record { sfits = c.z-in-loop-x-1.given }) ∙ ap (at c.args.c.now) (odd-at c.args.a c.args.w c.loop-x.x))

pub returns : goal.returns
returns c = filled-to c.requires.1.1 (omega arith) (omega arith) c.loop-x.invariant
