-- `forward::sixteen` meets its contract. Assumes nothing.
use Rattle.std.proofs.Common.{rules, ◌≤◌, ℤ, nat_abs, subst, ◌∙◌, below_more}
use mir.Syntax.{w16}
use mir.ValLaws.{to_z-of_z}
use Rattle.algebra.specs.Lists.{at}
use Rattle.step_lists.proofs.forward.sixteen.Goals as goal

pub loop-v-preserved : goal.loop-v-preserved
loop-v-preserved c =
    let x = c.args.x.now in
    let i = c.loop-v.v-index in
    let e = c.wide.ensures.0 ∙ to_z-of_z w16 (at x i) (search rules) in
    below_more (λ k. nat_abs (at x k) ≤ 32768) i c.loop-v.invariant (subst (λ (z : ℤ). nat_abs z ≤ 32768) e c.wide.ensures.1)
