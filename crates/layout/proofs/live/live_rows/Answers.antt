-- `live_rows` meets its contract. Assumes nothing.
use Rattle.std.proofs.Common.{arith, ◌*◌, ◌/◌, ◌≤◌, length}
use native.Mathlib.Nat.{mul-le-mul_right}
use Rattle.layout.proofs.Looking.{clear-join, half-size}
use Rattle.layout.proofs.live.live_rows.Goals as goal
use Rattle.layout.proofs.live.live_rows.Goals.{In-loop-r}

-- the rows from half of r up to r are in c
low : (c : In-loop-r) → c.loop-r.r / 2 * c.args.w ≤ c.loop-r.r * c.args.w
low c =
    let h : c.loop-r.r / 2 ≤ c.loop-r.r = omega arith in
    mul-le-mul_right c.args.w h

high : (c : In-loop-r) → c.loop-r.r * c.args.w ≤ length c.args.c.now
high c = omega (arith, c.requires.1, mul-le-mul_right c.args.w c.loop-r.invariant.1.0)

pub loop-r-init : goal.loop-r-init
loop-r-init c = (c.requires.0, (omega arith, λ k h g. absurd (omega arith)))

pub overflow_mul-half : goal.overflow_mul-half
overflow_mul-half c = let I = (goal.at.overflow_mul-half c).In-loop-r in omega (arith, low I, high I)

pub overflow_mul-r : goal.overflow_mul-r
overflow_mul-r c = omega (arith, high (goal.at.overflow_mul-r c).In-loop-r)

pub any-requires : goal.any-requires
any-requires c = let I = (goal.at.any-requires c).In-loop-r in (low I, high I)

pub returns-then-any : goal.returns-then-any
returns-then-any c = record { size = c.loop-r.invariant.0; within = c.loop-r.invariant.1.0; clear = c.loop-r.invariant.1.1 }

pub loop-r-preserved : goal.loop-r-preserved
loop-r-preserved c = (
  half-size c.loop-r.r c.loop-r.invariant.0 c.loop-r-test.true,
  (omega (arith, c.loop-r.invariant.1.0), clear-join c.args.c.now (c.loop-r.r / 2 * c.args.w) (c.loop-r.r * c.args.w) (c.args.h * c.args.w) (c.any.ensures c.if-any.false) c.loop-r.invariant.1.1),
)

pub returns : goal.returns
returns c = record { size = c.loop-r.invariant.0; within = c.loop-r.invariant.1.0; clear = c.loop-r.invariant.1.1 }
