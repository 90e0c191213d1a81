-- `weighed` meets its contract: no sum leaves 32 bits. Assumes nothing.
use mathlib.Core.Path.{sym, subst}
use Prim.Native.Nat.{◌≤◌}
use lib.IntN.{ℤ, nat_abs}
use mir.Syntax.{w16, w32}
use Rattle.algebra.proofs.Machine.{MV, arg, arg≤, cast, mul, add, cast_fits, mul-fits, add-fits, val}
use Rattle.inverse_4_8.proofs.rows.weighed.Statement.{statement}
use Rattle.inverse_4_8.proofs.rows.weighed.Tie as tie

abbrev of-a2 : tie.Start → MV w32
of-a2 c = cast w32 (arg {w = w16} c.ranges.a2) tt

abbrev of-w2 : tie.Start → MV w32
of-w2 c = cast w32 (arg≤ {w = w16} c.ranges.w2 c.requires.1.0) tt

abbrev by-w2 : tie.Start → MV w32
by-w2 c = mul (of-a2 c) (of-w2 c) tt

abbrev of-a0 : tie.Start → MV w32
of-a0 c = cast w32 (arg {w = w16} c.ranges.a0) tt

abbrev of-w0 : tie.Start → MV w32
of-w0 c = cast w32 (arg≤ {w = w16} c.ranges.w0 c.requires.0.0) tt

abbrev by-w0 : tie.Start → MV w32
by-w0 c = mul (of-a0 c) (of-w0 c) tt

abbrev of-a3 : tie.Start → MV w32
of-a3 c = cast w32 (arg {w = w16} c.ranges.a3) tt

abbrev of-w3 : tie.Start → MV w32
of-w3 c = cast w32 (arg≤ {w = w16} c.ranges.w3 c.requires.1.1) tt

abbrev by-w3 : tie.Start → MV w32
by-w3 c = mul (of-a3 c) (of-w3 c) tt

abbrev of-a1 : tie.Start → MV w32
of-a1 c = cast w32 (arg {w = w16} c.ranges.a1) tt

abbrev of-w1 : tie.Start → MV w32
of-w1 c = cast w32 (arg≤ {w = w16} c.ranges.w1 c.requires.0.1) tt

abbrev by-w1 : tie.Start → MV w32
by-w1 c = mul (of-a1 c) (of-w1 c) tt

abbrev even : tie.Start → MV w32
even c = add (by-w2 c) (by-w0 c) tt

abbrev odd : tie.Start → MV w32
odd c = add (by-w3 c) (by-w1 c) tt

cast-result : tie.Need-overflow_cast-result
cast-result c = cast_fits w32 (arg {w = w16} c.ranges.a2) tt

cast-result-2 : tie.Need-overflow_cast-result-2
cast-result-2 c = cast_fits w32 (arg≤ {w = w16} c.ranges.w2 c.requires.1.0) tt

mul-result : tie.Need-overflow_mul-result
mul-result c = mul-fits (of-a2 c) (of-w2 c) tt

cast-result-3 : tie.Need-overflow_cast-result-3
cast-result-3 c = cast_fits w32 (arg {w = w16} c.ranges.a0) tt

cast-result-4 : tie.Need-overflow_cast-result-4
cast-result-4 c = cast_fits w32 (arg≤ {w = w16} c.ranges.w0 c.requires.0.0) tt

mul-result-2 : tie.Need-overflow_mul-result-2
mul-result-2 c = mul-fits (of-a0 c) (of-w0 c) tt

add-result : tie.Need-overflow_add-result
add-result c = add-fits (by-w2 c) (by-w0 c) tt

cast-result-5 : tie.Need-overflow_cast-result-5
cast-result-5 c = cast_fits w32 (arg {w = w16} c.ranges.a3) tt

cast-result-6 : tie.Need-overflow_cast-result-6
cast-result-6 c = cast_fits w32 (arg≤ {w = w16} c.ranges.w3 c.requires.1.1) tt

mul-result-3 : tie.Need-overflow_mul-result-3
mul-result-3 c = mul-fits (of-a3 c) (of-w3 c) tt

cast-result-7 : tie.Need-overflow_cast-result-7
cast-result-7 c = cast_fits w32 (arg {w = w16} c.ranges.a1) tt

cast-result-8 : tie.Need-overflow_cast-result-8
cast-result-8 c = cast_fits w32 (arg≤ {w = w16} c.ranges.w1 c.requires.0.1) tt

mul-result-4 : tie.Need-overflow_mul-result-4
mul-result-4 c = mul-fits (of-a1 c) (of-w1 c) tt

add-result-2 : tie.Need-overflow_add-result-2
add-result-2 c = add-fits (by-w3 c) (by-w1 c) tt

add-result-3 : tie.Need-overflow_add-result-3
add-result-3 c = add-fits (even c) (odd c) tt

returns : tie.Need-returns
returns c = let s = add (even c) (odd c) tt in (val s, subst (λ (z : ℤ). nat_abs z ≤ 11796480) (sym (val s)) s.is.abs)

pub weighed_spec : {M : Type 1} → statement M
weighed_spec = tie.close (tie.spec cast-result cast-result-2 mul-result cast-result-3 cast-result-4 mul-result-2 add-result cast-result-5 cast-result-6 mul-result-3 cast-result-7 cast-result-8 mul-result-4 add-result-2 add-result-3 returns)
