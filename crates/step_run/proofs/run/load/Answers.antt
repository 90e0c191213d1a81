-- `run::load` meets its contract. Assumes nothing.
use Rattle.std.proofs.Common.{rules, arith, ◌≡◌, pos, length, get_or, true, to_z, of_z, ◌∙◌}
use lib.ListN.{replicate, length-replicate}
use mir.Syntax.{w16, w32}
use mir.ValLaws.{to_z-of_z}
use Rattle.steps.proofs.Front.{same_at, copy_more}
use Rattle.step_run.proofs.run.load.Goals as goal

pub loop-i-preserved : goal.loop-i-preserved
loop-i-preserved c =
    let s = c.args in
    let i = c.loop-i.i in
    let flags = replicate (length s.x.now) true in
    let e : to_z w32 (of_z w32 c.from.result) ≡ get_or s.x.now i (pos 0) = to_z-of_z w32 c.from.result (search rules) ∙ c.from.ensures ∙ to_z-of_z w16 (get_or s.x.now i (pos 0)) (search rules) in (
      rw (e, c.loop-i.invariant.0) (copy_more s.values.now i s.x.now (pos 0) c.loop-i-test.true (omega (arith, c.loop-i-test.true, c.requires.0))),
      rw c.loop-i.invariant.1
          (rw (same_at (length s.x.now) i true) at (copy_more s.written.now i flags true (omega (arith, c.loop-i-test.true, length-replicate (length s.x.now) true)) (omega (arith, c.loop-i-test.true, c.requires.1)))),
    )
