use Rattle.std.proofs.Common.{rules, arith, ◌≡◌, refl, sym, ap, ◌∙◌, subst, ℤ, to_z, of_z}
use mir.Syntax.{w16, w32}
use mir.Val.{SFits}
use mir.ValLaws.{to_z-of_z}
use Rattle.algebra.specs.Lists.{at}
use Rattle.algebra.proofs.Lists.{fill-first, filled-to}
use Rattle.narrowing.proofs.narrow_row.Goals as goal

pub overflow_cast-room : goal.overflow_cast-room
overflow_cast-room c = subst (SFits w16) (sym (to_z-of_z w32 (at c.args.c.now c.loop-k.k) (search rules))) (c.requires.1 c.loop-k.k c.loop-k-test.true)

pub loop-k-preserved : goal.loop-k-preserved
loop-k-preserved c =
    let z = at c.args.c.now c.loop-k.k in
    let wide : to_z w32 (of_z w32 z) ≡ z = to_z-of_z w32 z (search rules) in
    fill-first _ (omega (arith, c.requires.0)) c.loop-k.invariant (ap (λ (z : ℤ). to_z w16 (of_z w16 z)) wide ∙ to_z-of_z w16 z (c.requires.1 c.loop-k.k c.loop-k-test.true))

pub returns : goal.returns
returns c = filled-to refl (omega (arith, c.requires.0)) (omega (arith, c.requires.0)) c.loop-k.invariant
