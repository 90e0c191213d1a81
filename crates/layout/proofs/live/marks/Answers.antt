-- `marks` meets its contract. Assumes nothing.
use Rattle.std.proofs.Common.{arith, ◌≡◌, ℕ, ◌+◌, ◌*◌, ◌≤◌, length, refl, subst}
use Rattle.algebra.proofs.Lists.{row_in}
use Rattle.layout.specs.Live.{Unseen}
use Rattle.layout.proofs.Looking.{unseen-next}
use Rattle.layout.proofs.live.marks.Goals as goal
use Rattle.layout.proofs.live.marks.Goals.{In-loop-y}

inside : (c : In-loop-y) → c.loop-y.y * c.args.w + c.args.w ≤ length c.args.c.now
inside c = omega (arith, c.requires.1, row_in c.args.w c.loop-y-test.true)

pub loop-y-init : goal.loop-y-init
loop-y-init c = record { long = refl; none = λ x h e i g. absurd (omega arith) }

pub overflow_mul-y : goal.overflow_mul-y
overflow_mul-y c = omega (arith, inside (goal.at.overflow_mul-y c).In-loop-y)

pub mark_row-requires : goal.mark_row-requires
mark_row-requires c = (c.requires.0, (inside (goal.at.mark_row-requires c).In-loop-y, c.loop-y.invariant.long))

pub loop-y-preserved : goal.loop-y-preserved
loop-y-preserved c = unseen-next c.loop-y.invariant c.mark_row.ensures.0 c.mark_row.ensures.1

pub returns : goal.returns
returns c =
    let e : c.loop-y.y ≡ c.args.rows = omega arith in
    subst (λ (y : ℕ). Unseen c.args.w y c.args.c.now c.loop-y.seen) e c.loop-y.invariant
