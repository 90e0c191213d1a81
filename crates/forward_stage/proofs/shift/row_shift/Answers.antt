use Rattle.std.proofs.Common.{arith}
use Rattle.meaning.proofs.Cases.{depth-cases}
use Rattle.forward_stage.proofs.shift.row_shift.Goals as goal

pub overflow_add-result : goal.overflow_add-result
overflow_add-result c = record { fits = grind (arith, depth-cases c.args.shape.depth c.requires, c.log.ensures) }

pub overflow_sub-result : goal.overflow_sub-result
overflow_sub-result c = grind (arith, depth-cases c.args.shape.depth c.requires, c.log.ensures)
