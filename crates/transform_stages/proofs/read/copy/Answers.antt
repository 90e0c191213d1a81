-- `copy` meets its contract: the numbers before x are copied. Assumes nothing.
use native.Mathlib.Omega.{arith}
use mathlib.Core.Path.{◌≡◌, subst}
use Prim.Native.Nat.{ℕ, ◌+◌}
use mir.Syntax.{w32}
use mir.ValLaws.{to_z-of_z}
use Rattle.algebra.specs.Lists.{at}
use Rattle.algebra.proofs.Lists.{Filled, fill_none, fill-next}
use Rattle.transform_stages.proofs.read.copy.Goals as goal

pub loop-x-init : goal.loop-x-init
loop-x-init c = fill_none _ _ _

pub loop-x-preserved : goal.loop-x-preserved
loop-x-preserved c = fill-next _ (omega (arith, c.requires.1)) c.loop-x.invariant (to_z-of_z w32 (at c.args.c.now (c.args.o + c.loop-x.x)) (record { sfits = c.room-1.given }))

pub returns : goal.returns
returns c =
    let e : c.loop-x.x ≡ c.args.count = omega arith in
    let f = subst (λ (k : ℕ). Filled c.args.p k c.loop-x.room c.args.room.now (λ x. at c.args.c.now (c.args.o + x))) e c.loop-x.invariant in
    record { long = f.long; done = f.done; before = f.before; after = f.after }
