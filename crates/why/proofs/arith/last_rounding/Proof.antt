-- `last_rounding` meets its contract. Assumes nothing.
use borrow.Author.Rules.{rules}
use native.Mathlib.Omega.{arith}
use mathlib.Core.Path.{◌≡◌, sym, ap, ◌∙◌, subst}
use Prim.Native.Nat.{◌*◌, ◌%◌, ◌^◌, ◌≤◌}
use native.Mathlib.Nat.{one-mul, mod-eq_of_lt, mul-le-mul_right}
use lib.IntN.{ℤ, pos, nat_abs, ◌-ℤ◌, ◌*ℤ◌}
use lib.Pow.{pow_mono, pow_pos}
use mir.Syntax.{w64}
use mir.Val.{to_z}
use mir.ValLaws.{to_z-of_z}
use Rattle.algebra.specs.Shift.{nearest}
use Rattle.algebra.proofs.Shift.{nearest_in}
use Rattle.algebra.proofs.Machine.{MV, arg≤, lit, mul, sub, mul-fits, sub-fits, val}
use Rattle.why.proofs.arith.last_rounding.Statement.{statement}
use Rattle.why.proofs.arith.last_rounding.Tie as tie

-- 2^s, at most 2^12
power : (c : tie.Start) → 2 ^ c.args.s ≤ 4096
power c = pow_mono {j = 12} (omega (arith, c.requires.1.1))

made : (c : tie.Start) → to_z w64 ((1 * 2 ^ c.args.s) % 18446744073709551616) ≡ pos (2 ^ c.args.s)
made c =
    let h = power c in
    let e : (1 * 2 ^ c.args.s) % 18446744073709551616 ≡ 2 ^ c.args.s = rw one-mul (mod-eq_of_lt (omega arith)) in
    ap (to_z w64) e ∙ to_z-of_z w64 (pos (2 ^ c.args.s)) (record { sfits = omega arith })

abbrev scale : tie.Start → MV w64
scale c = record { n = (1 * 2 ^ c.args.s) % 18446744073709551616; z = pos (2 ^ c.args.s); size = 4096; is = record { val = made c; abs = power c } }

cast-result : tie.Need-overflow_cast-result
cast-result c = search rules

shl-result : tie.Need-overflow_shl-result
shl-result c = search rules

nearest-requires : tie.Need-nearest-requires
nearest-requires c κs =
    (subst (λ (z : ℤ). nat_abs z ≤ 1000000000000000000) (sym (to_z-of_z w64 c.args.r c.ranges.r)) (omega (arith, c.requires.0)), (c.requires.1.0, omega (arith, c.requires.1.1)))

is : (c : tie.After-nearest) → let s = c.before in c.nearest.result ≡ nearest s.args.s s.args.r
is c = let s = c.before in c.nearest.ensures ∙ ap (nearest s.args.s) (to_z-of_z w64 s.args.r s.ranges.r)

-- the residual is no larger than the row sum
small : (c : tie.Start) → nat_abs (nearest c.args.s c.args.r) ≤ 2147483648
small c = nearest_in c.args.s c.args.r 2147483648 c.requires.1.0 (omega (arith, c.requires.0, mul-le-mul_right 2147483648 (pow_pos c.args.s)))

abbrev z : tie.After-nearest → MV w64
z c = arg≤ {w = w64} {x = c.nearest.result} (record { sfits = c.nearest.type_inv }) (subst (λ (z : ℤ). nat_abs z ≤ 2147483648) (sym (is c)) (small c.before))

abbrev r : tie.After-nearest → MV w64
r c = arg≤ c.before.ranges.r c.before.requires.0

mul-result : tie.Need-overflow_mul-result
mul-result c = mul-fits (scale c.before) (z c) tt

sub-result : tie.Need-overflow_sub-result
sub-result c = sub-fits (mul (scale c.before) (z c) tt) (r c) tt

mul-result-2 : tie.Need-overflow_mul-result-2
mul-result-2 c = mul-fits (lit w64 128) (sub (mul (scale c.before) (z c) tt) (r c) tt) tt

returns : tie.Need-returns
returns c =
    let s = c.before.args in
    val (mul (lit w64 128) (sub (mul (scale c.before) (z c) tt) (r c) tt) tt) ∙ ap (λ (z : ℤ). pos 128 *ℤ (pos (2 ^ s.s) *ℤ z -ℤ s.r)) (is c)

pub last_rounding_spec : {M : Type 1} → statement M
last_rounding_spec =
    tie.close
    (tie.spec
    cast-result
    shl-result
    nearest-requires
    mul-result
    sub-result
    mul-result-2
    returns)
