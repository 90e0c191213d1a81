-- `sum_of` meets its contract. Assumes nothing.
use native.Mathlib.Omega.{arith}
use mathlib.Core.Path.{◌≡◌, sym, ap, ◌∙◌, subst}
use Prim.Native.Nat.{ℕ, ◌≤◌}
use lib.IntN.{ℤ, pos, negsuc, nat_abs, ◌+ℤ◌, ◌*ℤ◌}
use mir.Syntax.{w16, w32}
use mir.Val.{SFits, to_z, of_z}
use mir.ValLaws.{to_z-of_z}
use Rattle.product.specs.Product.{shifted, Rounding}
use Rattle.transform_line.proofs.Points.{weighs, weighed}
use Rattle.transform_line.proofs.two.sum_of.Statement.{statement}
use Rattle.transform_line.proofs.two.sum_of.Tie as tie

pair-requires : tie.Need-pair-requires
pair-requires c κs = (weighs (pos 64) c.args.a (omega arith) c.ranges.a, weighs (pos 64) c.args.b (omega arith) c.ranges.b)

value : (c : tie.After-pair) → let s = c.before in to_z w32 (of_z w32 c.pair.result) ≡ pos 64 *ℤ s.args.a +ℤ pos 64 *ℤ s.args.b
value c =
    let s = c.before in
    to_z-of_z w32 c.pair.result (record { sfits = c.pair.type_inv }) ∙ c.pair.ensures
    ∙ (λ i. pos 64 *ℤ to_z-of_z w16 s.args.a s.ranges.a i +ℤ pos 64 *ℤ to_z-of_z w16 s.args.b s.ranges.b i)

round-requires : tie.Need-round-requires
round-requires c κs =
    let s = c.before in (
      subst (λ (z : ℤ). nat_abs z ≤ 1000000000) (sym (value c)) (weighed (pos 64) (pos 64) s.args.a s.args.b (omega arith) (omega arith) s.ranges.a s.ranges.b),
      subst (λ (z : ℤ). Rounding z s.args.shift) (sym (to_z-of_z w32 s.args.half s.ranges.half)) s.requires,
    )

returns : tie.Need-returns
returns c =
    let s = c.before.before in
    to_z-of_z w32 c.round.result (record { sfits = c.round.type_inv }) ∙ c.round.ensures ∙ (λ i. shifted (to_z-of_z w32 s.args.half s.ranges.half i) s.args.shift (value c.before i))

pub sum_of_spec : {M : Type 1} → statement M
sum_of_spec = tie.close (tie.spec pair-requires round-requires returns)
