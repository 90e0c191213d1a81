-- `forward::widen` meets its contract. Assumes nothing.
use Rattle.std.proofs.Common.{rules, arith, ◌≤◌, nat_abs, refl, ◌∙◌, below_more}
use mir.Syntax.{w16, w32}
use mir.Val.{SFits}
use mir.ValLaws.{to_z-of_z}
use Rattle.algebra.specs.Lists.{at}
use Rattle.algebra.proofs.Order.{in-fits}
use Rattle.algebra.proofs.Lists.{fill_none, fill-first, filled-to}
use Rattle.meaning.proofs.Small.{within-places}
use Rattle.dct2_line.proofs.forward.widen.Goals as goal

pub loop-i-init : goal.loop-i-init
loop-i-init c = (fill_none 0 _ _, λ k h. absurd (omega arith))

pub loop-i-preserved : goal.loop-i-preserved
loop-i-preserved c =
    let z = at c.args.x.now c.loop-i.i in
    let f : SFits w16 z = record { sfits = c.from-arg-1.given } in (
      fill-first _ (omega arith) c.loop-i.invariant.0 (to_z-of_z w32 c.from.result (search rules) ∙ c.from.ensures ∙ to_z-of_z w16 z f),
      below_more (λ k. nat_abs (at c.args.x.now k) ≤ 32768) c.loop-i.i c.loop-i.invariant.1 (in-fits {w = w16} {z = z} f).within,
    )

pub returns : goal.returns
returns c = (
  filled-to refl (omega arith) (omega arith) c.loop-i.invariant.0,
  within-places 32768 c.args.x.now (λ k h. c.loop-i.invariant.1 k (omega (arith, c.requires))),
)
