-- `clipping` meets its contract. Assumes nothing.
use native.Mathlib.Omega.{arith}
use mathlib.Core.Path.{◌≡◌, sym, ap, ◌∙◌, subst}
use Prim.Native.Nat.{◌≤◌}
use lib.IntN.{ℤ, pos, nat_abs, ◌-ℤ◌, ◌*ℤ◌}
use mir.Syntax.{w64}
use mir.ValLaws.{to_z-of_z}
use Rattle.algebra.specs.Shift.{nearest}
use Rattle.algebra.proofs.Machine.{MV, arg≤, lit, mul, sub, mul-fits, sub-fits, val}
use Rattle.meaning.specs.Plan.{range_of}
use Rattle.meaning.specs.Inverse.{rounded, middle}
use Rattle.why.proofs.Rounded.{rounded-in}
use Rattle.why.proofs.arith.clipping.Statement.{statement}
use Rattle.why.proofs.arith.clipping.Tie as tie

between-requires : tie.Need-between-requires
between-requires c κs = (subst (λ (z : ℤ). nat_abs z ≤ 2147483648) (sym (to_z-of_z w64 c.args.e c.ranges.e)) c.requires.0, c.requires.1)

rounded-requires : tie.Need-rounded-requires
rounded-requires c κs =
    let s = c.before in
    subst (λ (z : ℤ). nat_abs z ≤ 1000000000000000000) (sym (to_z-of_z w64 s.args.e s.ranges.e)) (omega (arith, s.requires.0))

is : (c : tie.After-rounded) → let s = c.before.before in c.rounded.result ≡ rounded s.args.e
is c = let s = c.before.before in c.rounded.ensures ∙ ap (nearest 7) (to_z-of_z w64 s.args.e s.ranges.e)

middle-is : (c : tie.After-rounded) → let s = c.before.before in c.before.between.result ≡ middle (range_of s.args.reach) s.args.e
middle-is c =
    let s = c.before.before in
    c.before.between.ensures.0 ∙ ap (middle (range_of s.args.reach)) (to_z-of_z w64 s.args.e s.ranges.e)

abbrev r : tie.After-rounded → MV w64
r c =
    let s = c.before.before in
    arg≤ {w = w64} {x = c.rounded.result} (record { sfits = c.rounded.type_inv }) (subst (λ (z : ℤ). nat_abs z ≤ 16777216) (sym (is c)) (rounded-in s.args.e s.requires.0))

abbrev m : tie.After-rounded → MV w64
m c = arg≤ {w = w64} {x = c.before.between.result} (record { sfits = c.before.between.type_inv }) c.before.between.ensures.1

sub-result : tie.Need-overflow_sub-result
sub-result c = sub-fits (m c) (r c) tt

mul-result : tie.Need-overflow_mul-result
mul-result c = mul-fits (lit w64 128) (sub (m c) (r c) tt) tt

returns : tie.Need-returns
returns c =
    let v = mul (lit w64 128) (sub (m c) (r c) tt) tt in
    let q : nat_abs (pos 128 *ℤ (c.before.between.result -ℤ c.rounded.result)) ≤ 277025390592 = v.is.abs in
    (val v ∙ (λ i. pos 128 *ℤ (middle-is c i -ℤ is c i)), subst (λ (z : ℤ). nat_abs z ≤ 549755813888) (sym (val v)) (omega arith))

pub clipping_spec : {M : Type 1} → statement M
clipping_spec = tie.close (tie.spec between-requires rounded-requires sub-result mul-result returns)
