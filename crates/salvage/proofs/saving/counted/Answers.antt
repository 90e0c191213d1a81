use Rattle.std.proofs.Common.{arith, ap, length}
use Rattle.salvage.proofs.Joining.{not-dropped, is-dropped}
use Rattle.salvage.proofs.saving.counted.Goals as goal

pub returns-then-piece : goal.returns-then-piece
returns-then-piece c = omega (arith, ap length (not-dropped c.args.piece c.if-piece.true))

pub returns-else-piece : goal.returns-else-piece
returns-else-piece c = omega (arith, ap length (is-dropped c.args.piece c.if-piece.false))
