-- `residual_row` meets its contract: the columns before x are written. Assumes nothing.
use borrow.Author.Rules.{rules}
use native.Mathlib.Omega.{arith}
use mathlib.Core.Path.{◌≡◌, ap, ◌∙◌}
use native.Mathlib.Nat.{le_refl}
use lib.IntN.{nat_abs}
use mir.Syntax.{w64}
use mir.Val.{to_z, of_z}
use mir.ValLaws.{to_z-of_z}
use Rattle.algebra.specs.Shift.{nearest}
use Rattle.algebra.proofs.Lists.{fill-first, filled-to}
use Rattle.algebra.proofs.Word.{Is, cast_v! }
use Rattle.long_stages.specs.Work.{row_at}
use Rattle.long_stages.proofs.stages.residual_row.Goals as goal
use Rattle.long_stages.proofs.stages.residual_row.Goals.{After-nearest}

-- the residual of column x, as the locals have it
value : (c : After-nearest) → to_z w64 (of_z w64 c.nearest.result) ≡ nearest c.args.last (row_at c.args.t.now c.args.w c.args.m.now c.args.columns c.args.pairs c.loop-x.x c.args.y)
value c = to_z-of_z w64 c.nearest.result (search rules) ∙ c.nearest.ensures ∙ ap (nearest c.args.last) (to_z-of_z w64 c.dot.result (search rules) ∙ c.dot.ensures.0)

pub loop-x-preserved : goal.loop-x-preserved
loop-x-preserved c =
    let z = nearest c.args.last (row_at c.args.t.now c.args.w c.args.m.now c.args.columns c.args.pairs c.loop-x.x c.args.y) in
    let word : Is w64 (of_z w64 c.nearest.result) z (nat_abs z) = record { val = value (goal.at.loop-x-preserved c).After-nearest; abs = le_refl (nat_abs z) } in
    fill-first _ (omega (arith, c.requires.1.1)) c.loop-x.invariant (cast_v! word (c.requires.0.fits c.loop-x.x c.args.y c.loop-x-test.true c.requires.1.0)).val

pub returns : goal.returns
returns c = filled-to c.requires.1.1 (omega arith) (omega arith) c.loop-x.invariant
