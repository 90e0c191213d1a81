use Rattle.std.proofs.Common.{arith, ◌*◌, ◌≤◌}
use native.Mathlib.Nat.{mul-le-mul_right}
use Rattle.kernel_steps.proofs.Writing.{spread_none, spread-to}
use Rattle.lfnst.proofs.Placing.{next_row, placed}
use Rattle.lfnst.proofs.places.place_48.Goals as goal
use Rattle.lfnst.proofs.places.place_48.Goals.{In-loop-y}

-- the row is one of the first 8
room : (c : goal.In-loop-y) → c.loop-y.y * c.args.w ≤ 7 * c.args.w
room c =
    let l : c.loop-y.y ≤ 7 = omega (arith, c.loop-y-test.true) in
    mul-le-mul_right c.args.w l

pub loop-y-init : goal.loop-y-init
loop-y-init c = spread_none _ _ _ _ _

pub overflow_mul-y : goal.overflow_mul-y
overflow_mul-y c = omega (arith, room (goal.at.overflow_mul-y c).In-loop-y)

pub row_48-requires : goal.row_48-requires
row_48-requires c = (c.loop-y-test.true, (c.requires.0, omega (arith, room (goal.at.row_48-requires c).In-loop-y, c.loop-y.invariant.long, c.requires.1)))

pub loop-y-preserved : goal.loop-y-preserved
loop-y-preserved c = next_row c.requires.1.0 c.loop-y.invariant c.row_48.ensures

pub returns : goal.returns
returns c = placed (spread-to 8 (omega (arith, c.loop-y.auto.y-end, c.loop-y-test.false)) c.loop-y.invariant)
