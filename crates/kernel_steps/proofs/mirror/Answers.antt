use Rattle.std.proofs.Common.{rules, arith}
use Rattle.kernel_steps.proofs.Writing.{ends_next}
use Rattle.kernel_steps.proofs.mirror.Goals as goal

pub loop-j-preserved : goal.loop-j-preserved
loop-j-preserved c = ends_next _ _ (omega arith) (omega arith) (omega arith) c.loop-j.invariant (search rules) (search rules)
