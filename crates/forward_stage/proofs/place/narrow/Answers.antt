use Rattle.std.proofs.Common.{rules, arith, refl, w16, w32}
use Rattle.std.proofs.lemmas.Int.{to_z-of_z}
use Rattle.algebra.specs.Lists.{at}
use Rattle.algebra.proofs.Lists.{fill_none, fill-first, filled-to}
use Rattle.forward_stage.proofs.place.narrow.Goals as goal

pub loop-x-init : goal.loop-x-init
loop-x-init c = fill_none 0 _ _

pub loop-x-preserved : goal.loop-x-preserved
loop-x-preserved c =
    fill-first _ (omega (arith, c.loop-x.invariant.long)) c.loop-x.invariant (
    let z = at c.args.e.now c.loop-x.x in
    rw (to_z-of_z w32 z (search rules), to_z-of_z w16 z (c.requires.1 c.loop-x.x c.loop-x-test.true))
    )

pub returns : goal.returns
returns c = filled-to refl (omega arith) c.loop-x-test.false c.loop-x.invariant
