-- `rounding` meets its contract. Assumes nothing.
use native.Mathlib.Omega.{arith}
use mathlib.Core.Path.{◌≡◌, sym, ap, ◌∙◌, subst}
use Prim.Native.Nat.{◌≤◌}
use lib.IntN.{ℤ, pos, nat_abs, ◌-ℤ◌, ◌*ℤ◌}
use mir.Syntax.{w64}
use mir.ValLaws.{to_z-of_z}
use Rattle.algebra.specs.Shift.{nearest}
use Rattle.algebra.proofs.Machine.{MV, arg≤, lit, mul, sub, mul-fits, sub-fits, val}
use Rattle.meaning.specs.Inverse.{rounded}
use Rattle.why.proofs.Rounded.{rounded-in}
use Rattle.why.proofs.arith.rounding.Statement.{statement}
use Rattle.why.proofs.arith.rounding.Tie as tie

rounded-requires : tie.Need-rounded-requires
rounded-requires c κs = subst (λ (z : ℤ). nat_abs z ≤ 1000000000000000000) (sym (to_z-of_z w64 c.args.e c.ranges.e)) (omega (arith, c.requires))

is : (c : tie.After-rounded) → c.rounded.result ≡ rounded c.before.args.e
is c = c.rounded.ensures ∙ ap (nearest 7) (to_z-of_z w64 c.before.args.e c.before.ranges.e)

abbrev r : tie.After-rounded → MV w64
r c = arg≤ {w = w64} {x = c.rounded.result} (record { sfits = c.rounded.type_inv }) (subst (λ (z : ℤ). nat_abs z ≤ 16777216) (sym (is c)) (rounded-in c.before.args.e c.before.requires))

abbrev e : tie.After-rounded → MV w64
e c = arg≤ c.before.ranges.e c.before.requires

mul-result : tie.Need-overflow_mul-result
mul-result c = mul-fits (lit w64 128) (r c) tt

sub-result : tie.Need-overflow_sub-result
sub-result c = sub-fits (mul (lit w64 128) (r c) tt) (e c) tt

returns : tie.Need-returns
returns c =
    let m = sub (mul (lit w64 128) (r c) tt) (e c) tt in
    let q : nat_abs (pos 128 *ℤ c.rounded.result -ℤ c.before.args.e) ≤ 4294967296 = m.is.abs in
    (val m ∙ ap (λ (z : ℤ). pos 128 *ℤ z -ℤ c.before.args.e) (is c), subst (λ (z : ℤ). nat_abs z ≤ 549755813888) (sym (val m)) (omega arith))

pub rounding_spec : {M : Type 1} → statement M
rounding_spec = tie.close (tie.spec rounded-requires mul-result sub-result returns)
