-- `running::line_of` meets its contract. Assumes nothing.
use Rattle.std.proofs.Common.{◌∙◌, arith, w32, rules}
use mir.ValLaws.{to_z-of_z}
use Rattle.algebra.proofs.Lists.{fill_none, fill-first, filled-to}
use Rattle.wrapping.proofs.running.line_of.Goals as goal

pub loop-j-init : goal.loop-j-init
loop-j-init c = fill_none 0 _ _

pub loop-j-preserved : goal.loop-j-preserved
loop-j-preserved c = fill-first _ c.loop-j-test.true c.loop-j.invariant (to_z-of_z w32 c.sum_of.result (search rules) ∙ c.sum_of.ensures)

pub returns : goal.returns
returns c =
    let l = c.loop-j.invariant.long in
    filled-to c.requires.1 (omega (arith, c.loop-j.auto.j-end, l, c.requires.1)) (omega (arith, c.loop-j-test.false, l, c.requires.1)) c.loop-j.invariant
