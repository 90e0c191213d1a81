use Rattle.std.proofs.Common.{rules, arith, refl}
use Rattle.kernel_steps.proofs.Writing.{wrote_at}
use Rattle.kernel_steps.proofs.round.Goals as goal

pub loop-j-preserved : goal.loop-j-preserved
loop-j-preserved c = wrote_at _ _ _ refl refl (omega arith) c.loop-j.invariant (search rules)
