-- `first_outside` meets its contract: every place that the hunt has passed fails the test. Assumes nothing.
use native.Mathlib.Omega.{arith}
use mathlib.Core.Path.{◌≡◌, sym, ap, ◌∙◌}
use Prim.Native.Nat.{◌+◌, ◌*◌}
use lib.ListN.{length}
use mir.Syntax.{w32}
use mir.ValLaws.{to_z-of_z}
use Rattle.algebra.specs.Lists.{at}
use Rattle.meaning.specs.Plan.{plan_of}
use Rattle.meaning.specs.Inverse.{first_outside, outside_at}
use Rattle.layout.proofs.Inside.{outside_of, outside-at}
use Rattle.layout.proofs.Hunting.{hunt-in, hunt-next, hunt-here, hunt-none}
use Rattle.long_stages.proofs.Finds.{is-found, not-found}
use Rattle.long_stages.proofs.hunt.first_outside.Goals as goal
use Rattle.long_stages.proofs.hunt.first_outside.Goals.{After-outside}

-- what `outside` said is the test at this place
told : (c : After-outside) → let k = c.loop-x.x + c.hunt.y * c.args.shape.width in
    outside_of c.args.shape.width c.args.shape.columns c.args.shape.rows k (at c.args.c.now k) ≡ c.outside.result
told c =
    let k = c.loop-x.x + c.hunt.y * c.args.shape.width in
    outside-at c.args.shape.width _ _ c.loop-x.x c.hunt.y (at c.args.c.now k) c.loop-x-test.true
    ∙ sym (c.outside.ensures ∙ ap (outside_at _ _ c.loop-x.x c.hunt.y) (to_z-of_z w32 (at c.args.c.now k) (record { sfits = c.outside-arg-1.given })))

pub loop-x-preserved : goal.loop-x-preserved
loop-x-preserved c = (hunt-next c.requires c.hunt-test.true c.loop-x.invariant.0 c.loop-x-test.true (told (goal.at.loop-x-preserved c).After-outside ∙ c.if-outside.false), c.loop-x.invariant.1)

pub returns-then-outside : goal.returns-then-outside
returns-then-outside c =
    let l = c.args.c.now in
    is-found (length l) (first_outside (plan_of c.args.shape) l) _
    (hunt-here c.requires c.hunt-test.true c.loop-x.invariant.0 c.loop-x-test.true (told (goal.at.returns-then-outside c).After-outside ∙ c.if-outside.true))
    (hunt-in l c.requires c.loop-x-test.true c.hunt-test.true)

pub returns-after-hunt : goal.returns-after-hunt
returns-after-hunt c =
    let l = c.args.c.now in
    let e : length l ≡ first_outside (plan_of c.args.shape) l = hunt-none c.requires c.hunt-test.false c.hunt.invariant.0 in
    c.hunt.invariant.1 ∙ not-found (length l) (first_outside (plan_of c.args.shape) l) (omega arith)
