use Rattle.std.proofs.Common.{rules, arith, refl}
use Rattle.kernel_steps.proofs.Writing.{wrote_at}
use Rattle.kernel_steps.proofs.deal.Goals as goal

pub loop-i-preserved : goal.loop-i-preserved
loop-i-preserved c = wrote_at _ _ _ (omega arith) refl (omega arith) c.loop-i.invariant (search rules)
