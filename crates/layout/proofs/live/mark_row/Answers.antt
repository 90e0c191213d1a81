-- `mark_row` meets its contract. Assumes nothing.
use Rattle.std.proofs.Common.{rules, arith, ◌+◌, sym, ◌∙◌}
use mir.Syntax.{w16}
use mir.ValLaws.{to_z-of_z}
use Rattle.algebra.specs.Lists.{at}
use Rattle.layout.proofs.Looking.{marked-none, marked_next}
use Rattle.layout.proofs.live.mark_row.Goals as goal

pub loop-x-init : goal.loop-x-init
loop-x-init c = marked-none

pub loop-x-preserved : goal.loop-x-preserved
loop-x-preserved c =
    marked_next _ (omega (arith, c.requires.0)) c.loop-x.invariant
    (λ e.
    let b = c.mark.ensures (sym (to_z-of_z w16 c.mark.result (search rules)) ∙ e) in (
      sym (to_z-of_z w16 (at c.loop-x.seen c.loop-x.x) (record { sfits = c.mark-arg-1.given })) ∙ b.0,
      sym (to_z-of_z w16 (at c.args.c.now (c.args.o + c.loop-x.x)) (record { sfits = c.mark-arg-in-loop-x-1.given })) ∙ b.1,
    ))

pub returns : goal.returns
returns c = (c.loop-x.invariant.long ∙ c.requires.1.1, λ x h e. c.loop-x.invariant.done x (omega arith) e)
