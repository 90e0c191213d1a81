-- `any` meets its contract. Assumes nothing.
use Rattle.std.proofs.Common.{arith, sym, ap, ◌∙◌, to_z}
use Rattle.std.proofs.lemmas.Bool.{false≢true}
use mir.Syntax.{w16}
use mir.ValLaws.{to_z-of_z}
use Rattle.algebra.specs.Lists.{at}
use Rattle.layout.proofs.Looking.{clear-more}
use Rattle.layout.proofs.live.any.Goals as goal
use Rattle.layout.proofs.live.any.Goals.{then-c-i-ne0, else-c-i-ne0}

pub loop-i-init : goal.loop-i-init
loop-i-init c = λ e k h g. absurd (omega arith)

pub loop-i-preserved : goal.loop-i-preserved
loop-i-preserved c e = elim c.if-c-i-ne0.branch [
  | then-c-i-ne0 w ↦ absurd (false≢true (sym e ∙ w.found-is))
  | else-c-i-ne0 w ↦ clear-more c.args.c.now c.args.a c.loop-i.i (c.loop-i.invariant (sym w.found-is ∙ e))
      (sym (to_z-of_z w16 (at c.args.c.now c.loop-i.i) (record { sfits = c.t9-1.given })) ∙ ap (to_z w16) w.if-c-i-ne0.false)
]

pub returns : goal.returns
returns c f = λ k h g. c.loop-i.invariant f k h (omega arith)
