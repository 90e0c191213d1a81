-- `arith::product`, exact in 64 bits. Assumes nothing.
use Rattle.std.proofs.Common.{arith, ap, ◌≡◌, ◌≤◌, ℤ, ◌*ℤ◌, nat_abs, sym, subst, ◌∙◌}
use lib.Signed.{mag}
use mir.Syntax.{w32, w64}
use mir.Val.{SFits}
use mir.ValLaws.{to_z-of_z}
use Rattle.algebra.proofs.Machine.{MV, arg, arg≤, mul, val}
use Rattle.step_run.proofs.arith.product.Goals as goal

-- a number of 32 bits in 64
wide : {x : ℤ} (z : ℤ) → SFits w32 x → z ≡ x → MV w64
wide z f e = arg≤ {x = z} (record { sfits = omega (arith, ap mag e, f.sfits) }) (subst (λ (z : ℤ). nat_abs z ≤ 2147483648) (sym e) (arg f).is.abs)

pub returns : goal.returns
unfolding wide
returns c =
    let e = c.from.ensures ∙ to_z-of_z w32 c.args.x c.ranges.x in
    let f = c.from-2.ensures ∙ to_z-of_z w32 c.args.y c.ranges.y in
    val (mul (wide c.from.result c.ranges.x e) (wide c.from-2.result c.ranges.y f) tt) ∙ (λ i. e i *ℤ f i)
