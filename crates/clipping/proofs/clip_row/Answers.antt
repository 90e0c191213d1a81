use Rattle.std.proofs.Common.{rules, arith, refl}
use Rattle.kernel_steps.proofs.Writing.{wrote_at}
use Rattle.clipping.proofs.clip_row.Goals as goal

pub loop-k-preserved : goal.loop-k-preserved
loop-k-preserved c = wrote_at _ _ _ refl refl (omega (arith, c.requires.1)) c.loop-k.invariant (search rules)
