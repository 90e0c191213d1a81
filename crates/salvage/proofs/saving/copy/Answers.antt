use Rattle.std.proofs.Common.{arith}
use Rattle.file_text.proofs.Writing.{nothing}
use Rattle.salvage.proofs.Joining.{copied_more}
use Rattle.salvage.proofs.saving.copy.Goals as goal

pub loop-byte-init : goal.loop-byte-init
loop-byte-init c = nothing 0 c.args.at c.args.out.now

pub loop-byte-preserved : goal.loop-byte-preserved
loop-byte-preserved c = copied_more c.args.part.now c.loop-byte.byte-index (omega arith) c.loop-byte.invariant c.put-p.ensures
