use Rattle.std.proofs.Common.{arith, ◌≡◌, refl}
use Rattle.kernel_steps.proofs.Writing.{wrote-to, spread-next}
use Rattle.kernel_steps.proofs.spread.Goals as goal

pub loop-y-preserved : goal.loop-y-preserved
loop-y-preserved g c =
    let e : c.loop-j.j ≡ g.row.K = omega arith in
    spread-next c.requires.1.0 c.loop-y.invariant (wrote-to g.row.K e c.loop-j.invariant) (λ i h. refl)
