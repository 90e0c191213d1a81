-- `read` meets its contract: the rows before y are there, and 0 below them. Assumes nothing.
use native.Mathlib.Omega.{arith}
use mathlib.Core.Path.{◌≡◌, subst}
use Prim.Native.Nat.{ℕ, ◌+◌, ◌*◌, ◌≤◌}
use lib.ListN.{length}
use Rattle.algebra.proofs.Lists.{row_in}
use Rattle.transform_stages.specs.Work.{RoomRead}
use Rattle.transform_stages.proofs.Copying.{read_next}
use Rattle.transform_stages.proofs.read.read.Goals as goal
use Rattle.transform_stages.proofs.read.read.Goals.{In-loop-y}

-- row y is in `c`
row : (c : In-loop-y) → c.loop-y.y * c.args.w + c.args.w ≤ length c.args.c.now
row c = omega (arith, c.requires.0.there, row_in c.args.w c.loop-y-test.true)

pub loop-y-init : goal.loop-y-init
loop-y-init c = c.requires.1

pub overflow_mul-y : goal.overflow_mul-y
overflow_mul-y c = omega (arith, row (goal.at.overflow_mul-y c).In-loop-y)

pub copy-requires : goal.copy-requires
copy-requires c = (
  omega (arith, row (goal.at.copy-requires c).In-loop-y, c.requires.0.within),
  omega (arith, c.loop-y.invariant.long, c.requires.0.narrow, c.requires.0.low),
)

pub loop-y-preserved : goal.loop-y-preserved
loop-y-preserved c = read_next c.args.w c.args.columns c.loop-y.y c.requires.0.narrow c.loop-y.invariant c.copy.ensures

pub returns : goal.returns
returns c =
    let e : c.loop-y.y ≡ c.args.rows = omega arith in
    subst (λ (y : ℕ). RoomRead c.args.c.now c.args.w c.args.columns y c.loop-y.room) e c.loop-y.invariant
