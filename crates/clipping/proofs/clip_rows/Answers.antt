use Rattle.std.proofs.Common.{arith, refl, ◌∙◌}
use Rattle.algebra.proofs.Lists.{row_in}
use Rattle.clipping.proofs.Clipped.{no_row, next_row}
use Rattle.clipping.proofs.clip_rows.Goals as goal

pub loop-y-init : goal.loop-y-init
loop-y-init c = (refl, no_row c.args.c.now c.args.room.now c.args.w c.args.columns c.requires.1.1.1)

pub overflow_mul-y : goal.overflow_mul-y
overflow_mul-y c = omega (arith, row_in c.args.w c.loop-y-test.true, c.requires.1.0)

pub clip_row-requires : goal.clip_row-requires
clip_row-requires c =
    let row = row_in c.args.w c.loop-y-test.true in
    (omega (arith, row, c.requires.0, c.requires.1.0), omega (arith, row, c.requires.0, c.requires.1.1.0, c.loop-y.invariant.0))

pub loop-y-preserved : goal.loop-y-preserved
loop-y-preserved c =
    (c.clip_row.ensures.long ∙ c.loop-y.invariant.0, next_row c.args.c.now _ _ c.args.w c.args.columns c.loop-y.y c.requires.0 c.loop-y.invariant.1 c.clip_row.ensures)
