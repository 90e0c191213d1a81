-- `inverse::deal` meets its contract. Assumes nothing.
use Rattle.std.proofs.Common.{arith, ◌+◌, ◌*◌, ◌<◌, length, refl}
use mir.Syntax.{w16}
use mir.ValLaws.{to_z-of_z}
use Rattle.algebra.specs.Lists.{at}
use Rattle.algebra.proofs.Lists.{fill_none, fill-first, filled-to}
use Rattle.dct2_line.proofs.inverse.deal.Goals as goal
use Rattle.dct2_line.proofs.inverse.deal.Goals.{In-loop-i}

-- the input is there
here : (c : In-loop-i) → c.args.from + c.loop-i.i * c.args.step < length c.args.x.now
here c = c.requires c.loop-i.i (omega arith)

pub loop-i-init : goal.loop-i-init
loop-i-init c = fill_none 0 _ _

pub overflow_mul-a : goal.overflow_mul-a
overflow_mul-a c = omega (arith, here (goal.at.overflow_mul-a c).In-loop-i)

pub overflow_add-a : goal.overflow_add-a
overflow_add-a c = omega (arith, here (goal.at.overflow_add-a c).In-loop-i)

pub offset_bounds-x-from : goal.offset_bounds-x-from
offset_bounds-x-from c = omega (arith, here (goal.at.offset_bounds-x-from c).In-loop-i)

pub bounds-x-from : goal.bounds-x-from
bounds-x-from c = here (goal.at.bounds-x-from c).In-loop-i

pub loop-i-preserved : goal.loop-i-preserved
loop-i-preserved c =
    let z = at c.args.x.now (c.args.from + c.loop-i.i * c.args.step) in
    fill-first _ (omega arith) c.loop-i.invariant (to_z-of_z w16 z (record { sfits = c.a-1.given }))

pub returns : goal.returns
returns c = filled-to refl (omega arith) (omega arith) c.loop-i.invariant
