use Rattle.std.proofs.Common.{arith, ◌≡◌, sym, ap, ◌∙◌, ℕ, ◌+◌, ◌*◌, ◌/◌, ◌%◌}
use Rattle.algebra.specs.Lists.{at}
use Rattle.algebra.proofs.Lists.{row_of, column-of}
use Rattle.kernel_steps.proofs.Writing.{wrote-to, wrote-join}
use Rattle.kernel_steps.proofs.strip.Goals as goal

pub loop-y-preserved : goal.loop-y-preserved
loop-y-preserved g c =
    let s = c.args in
    let y = c.loop-y.y in
    let K = g.row.K in
    let e : c.loop-x.x ≡ K = omega arith in
    wrote-join _ _ (omega arith) (omega arith) c.loop-y.invariant (wrote-to K e c.loop-x.invariant) (λ i h.
    let swap : K * y + i ≡ i + y * K = omega arith in
    let q : (K * y + i) / K ≡ y = ap (λ (k : ℕ). k / K) swap ∙ row_of y h in
    let r : (K * y + i) % K ≡ i = ap (λ (k : ℕ). k % K) swap ∙ column-of y h in
    λ t. at s.c.now (sym q t * s.w + s.x0 + sym r t))
