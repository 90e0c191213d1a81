-- `arith::times` meets its contract. Assumes nothing.
use mir.Syntax.{w16, w32}
use Rattle.algebra.proofs.Machine.{MV, arg≤, cast, mul, add, cast_fits, mul-fits, add-fits, val}
use Rattle.dct2_line.proofs.arith.times.Statement.{statement}
use Rattle.dct2_line.proofs.arith.times.Tie as tie

abbrev weight : tie.Start → MV w32
weight c = cast w32 (arg≤ {w = w16} c.ranges.w c.requires.1.0) tt

abbrev input : tie.Start → MV w32
input c = arg≤ c.ranges.v c.requires.1.1

cast-result : tie.Need-overflow_cast-result
cast-result c = cast_fits w32 (arg≤ {w = w16} c.ranges.w c.requires.1.0) tt

mul-result : tie.Need-overflow_mul-result
mul-result c = mul-fits (weight c) (input c) tt

add-result : tie.Need-overflow_add-result
add-result c = add-fits (arg≤ c.ranges.a c.requires.0) (mul (weight c) (input c) tt) tt

returns : tie.Need-returns
returns c = val (add (arg≤ c.ranges.a c.requires.0) (mul (weight c) (input c) tt) tt)

pub times_spec : {M : Type 1} → statement M
times_spec = tie.close (tie.spec cast-result mul-result add-result returns)
