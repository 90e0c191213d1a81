use Rattle.std.proofs.Common.{rules, arith, ap}
use Rattle.meaning.specs.Inverse.{count}
use Rattle.inverse_stage.proofs.Railing.{rails-none, rails-next, rails-in}
use Rattle.inverse_stage.proofs.settle.counted.Goals as goal
use Rattle.inverse_stage.proofs.settle.counted.Goals.{then-rail, else-rail}

pub loop-x-init : goal.loop-x-init
loop-x-init c = rails-none c.args.e.now c.args.m.now

pub overflow_add-n : goal.overflow_add-n
overflow_add-n c = omega (arith, rails-in c.args.e.now c.args.m.now c.loop-x.x)

pub loop-x-preserved : goal.loop-x-preserved
loop-x-preserved c =
    let next = rails-next c.args.e.now c.args.m.now c.loop-x.x (search rules) (search rules) c.rail.ensures in
    elim c.if-rail.branch [ then-rail w ↦ omega (arith, next, ap count w.if-rail.true) | else-rail w ↦ omega (arith, next, ap count w.if-rail.false) ]
