-- One number more. Assumes nothing.
use Rattle.std.proofs.Common.{arith, rules}
use Rattle.file_text.proofs.Spaced.{wrote-more}
use Rattle.file_text.proofs.text.put_coefficients.Goals as goal

pub loop-z-preserved : goal.loop-z-preserved
loop-z-preserved c = wrote-more c.args.zs.now c.loop-z.z-index (omega arith) (search rules) c.loop-z.invariant c.put_integer-end.ensures
