-- `mac` meets its contract: 10^18 and 2^46 together stay below 2^63. Assumes nothing.
use mathlib.Core.Path.{sym, subst}
use Prim.Native.Nat.{◌+◌, ◌≤◌}
use native.Mathlib.Omega.{arith}
use lib.IntN.{ℤ, nat_abs, ◌*ℤ◌}
use mir.Syntax.{w16, w32, w64}
use Rattle.algebra.proofs.Order.{abs-add}
use Rattle.algebra.proofs.Machine.{MV, arg, arg≤, cast, mul, add, cast_fits, mul-fits, add-fits, val}
use Rattle.long_stages.proofs.arith.mac.Statement.{statement}
use Rattle.long_stages.proofs.arith.mac.Tie as tie

abbrev a : tie.Start → MV w64
a c = arg≤ c.ranges.a c.requires

abbrev w : tie.Start → MV w64
w c = cast w64 (arg {w = w16} c.ranges.w) tt

abbrev v : tie.Start → MV w64
v c = cast w64 (arg {w = w32} c.ranges.v) tt

cast-result : tie.Need-overflow_cast-result
cast-result c = cast_fits w64 (arg {w = w16} c.ranges.w) tt

cast-result-2 : tie.Need-overflow_cast-result-2
cast-result-2 c = cast_fits w64 (arg {w = w32} c.ranges.v) tt

mul-result : tie.Need-overflow_mul-result
mul-result c = mul-fits (w c) (v c) tt

add-result : tie.Need-overflow_add-result
add-result c = add-fits (a c) (mul (w c) (v c) tt) tt

returns : tie.Need-returns
returns c =
    let s = c.args in
    let e = val (add (a c) (mul (w c) (v c) tt) tt) in
    let m : nat_abs (s.w *ℤ s.v) ≤ 70368744177664 = (mul (w c) (v c) tt).is.abs in
    (e, subst (λ (z : ℤ). nat_abs z ≤ nat_abs s.a + 70368744177664) (sym e) (omega (arith, abs-add s.a (s.w *ℤ s.v), m)))

pub mac_spec : {M : Type 1} → statement M
mac_spec = tie.close (tie.spec cast-result cast-result-2 mul-result add-result returns)
