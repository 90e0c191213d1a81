-- `run::hand_over` meets its contract. Assumes nothing.
use Rattle.std.proofs.Common.{arith, ◌≡◌, ℕ, length, sym, subst, ◌∙◌}
use Rattle.algebra.specs.Lists.{at}
use Rattle.algebra.proofs.Lists.{Filled, filled}
use Rattle.steps.specs.Numbers.{cell_of}
use Rattle.step_run.proofs.Laws.{readings-are}
use Rattle.step_run.proofs.run.hand_over.Goals as goal

pub returns : goal.returns
returns c =
    let s = c.args in
    let e : c.loop-i.i ≡ length s.outs.now = omega (arith, c.loop-i.auto.i-end, c.loop-i-test.false) in
    filled {n = length s.outs.now} c.requires (subst (λ (m : ℕ). Filled 0 m c.loop-i.y s.y.now (λ k. at s.values.now (cell_of (at s.outs.now k)))) e c.loop-i.invariant)
    ∙ sym (readings-are s.values.now s.outs.now)
