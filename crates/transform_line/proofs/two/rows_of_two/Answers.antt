-- `rows_of_two` meets its contract: the rows before y are written. Assumes nothing.
use native.Mathlib.Omega.{arith}
use mathlib.Core.Path.{◌≡◌, sym, ap, ◌∙◌, subst}
use Prim.Native.Nat.{ℕ, ◌+◌, ◌*◌, ◌≤◌, ◌<◌}
use lib.IntN.{ℤ}
use lib.ListN.{length, length-set}
use mir.Syntax.{w16, w32}
use mir.Val.{to_z, of_z}
use mir.ValLaws.{to_z-of_z}
use Rattle.algebra.specs.Lists.{at, block}
use Rattle.product.specs.Product.{Rounding}
use Rattle.transform_line.specs.Lines.{two_at}
use Rattle.transform_line.proofs.Points.{two_none, two-next, two-all, sum_is, difference-is}
use Rattle.transform_line.proofs.two.rows_of_two.Goals as goal
use Rattle.transform_line.proofs.two.rows_of_two.Goals.{In-loop-y, After-difference_of}

here : (c : In-loop-y) → c.loop-y.y * c.args.step + c.args.apart < length c.args.z.now
here c = c.requires.there c.loop-y.y c.loop-y-test.true

pub loop-y-init : goal.loop-y-init
loop-y-init c = two_none _ _

pub overflow_mul-a : goal.overflow_mul-a
overflow_mul-a c = omega (arith, here (goal.at.overflow_mul-a c).In-loop-y)

pub offset_bounds-z-y : goal.offset_bounds-z-y
offset_bounds-z-y c = omega (arith, here (goal.at.offset_bounds-z-y c).In-loop-y)

pub bounds-z-y : goal.bounds-z-y
bounds-z-y c = omega (arith, here (goal.at.bounds-z-y c).In-loop-y)

pub loop-y-preserved : goal.loop-y-preserved
loop-y-preserved c =
    let D = (goal.at.loop-y-preserved c).After-difference_of in
    let z = c.args.z.now in
    let y = c.loop-y.y in
    let half = to_z w32 (of_z w32 c.args.half) in
    let p = to_z-of_z w16 (at z (y * c.args.step)) (record { sfits = D.a-1.given }) in
    let q = to_z-of_z w16 (at z (y * c.args.step + c.args.apart)) (record { sfits = D.b-1.given }) in
    two-next _ _ (omega (arith, c.requires.room)) c.loop-y.invariant
    (to_z-of_z w32 c.sum_of.result (record { sfits = c.sum_of.type_inv }) ∙ c.sum_of.ensures ∙ sum_is z c.args.step c.args.apart half c.args.shift y _ _ p q)
    (to_z-of_z w32 c.difference_of.result (record { sfits = c.difference_of.type_inv }) ∙ c.difference_of.ensures ∙ difference-is z c.args.step c.args.apart half c.args.shift y _ _ p q)

pub returns : goal.returns
returns c =
    two-all c.args.h (omega arith) c.requires.room c.loop-y.invariant
    ∙ ap (λ (z : ℤ). block 2 c.args.h (two_at c.args.z.now c.args.step c.args.apart z c.args.shift)) (to_z-of_z w32 c.args.half c.ranges.half)
