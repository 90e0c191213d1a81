use Rattle.std.proofs.Common.{rules, arith, ◌∙◌, w32, to_z-of_z}
use Rattle.algebra.proofs.Lists.{fill_none, fill-first, filled-to}
use Rattle.lfnst.specs.LowFrequency.{order}
use Rattle.lfnst.proofs.Reading.{in-corner, reads}
use Rattle.lfnst.proofs.corner.in_order.Goals as goal

pub loop-i-init : goal.loop-i-init
unfolding order
loop-i-init c = (fill_none 0 _ _, record { right = tt })

pub bounds-corner-order : goal.bounds-corner-order
bounds-corner-order c = omega (arith, in-corner c.loop-i.invariant.1 c.loop-i.i c.loop-i-test.true)

pub loop-i-preserved : goal.loop-i-preserved
loop-i-preserved c = (
  fill-first _ (omega (arith, c.requires.1, c.loop-i-test.true)) c.loop-i.invariant.0
      (to_z-of_z {w = w32} (search rules) ∙ reads c.loop-i.invariant.1 c.loop-i.i c.loop-i-test.true c.args.corner.now),
  c.loop-i.invariant.1,
)

pub returns : goal.returns
returns c = filled-to c.requires.1 (search rules) c.loop-i-test.false c.loop-i.invariant.0
