-- `arith::both` meets its contract. Assumes nothing.
use mir.Syntax.{w16, w32}
use Rattle.algebra.proofs.Machine.{MV, arg≤, cast, mul, add, cast_fits, mul-fits, add-fits, val}
use Rattle.dct2_line.proofs.arith.both.Statement.{statement}
use Rattle.dct2_line.proofs.arith.both.Tie as tie

abbrev first : tie.Start → MV w32
first c = mul (cast w32 (arg≤ {w = w16} c.ranges.w c.requires.0.0) tt) (arg≤ c.ranges.a c.requires.0.1) tt

abbrev second : tie.Start → MV w32
second c = mul (cast w32 (arg≤ {w = w16} c.ranges.v c.requires.1.0) tt) (arg≤ c.ranges.b c.requires.1.1) tt

cast-result : tie.Need-overflow_cast-result
cast-result c = cast_fits w32 (arg≤ {w = w16} c.ranges.w c.requires.0.0) tt

mul-result : tie.Need-overflow_mul-result
mul-result c = mul-fits (cast w32 (arg≤ {w = w16} c.ranges.w c.requires.0.0) tt) (arg≤ c.ranges.a c.requires.0.1) tt

cast-result-2 : tie.Need-overflow_cast-result-2
cast-result-2 c = cast_fits w32 (arg≤ {w = w16} c.ranges.v c.requires.1.0) tt

mul-result-2 : tie.Need-overflow_mul-result-2
mul-result-2 c = mul-fits (cast w32 (arg≤ {w = w16} c.ranges.v c.requires.1.0) tt) (arg≤ c.ranges.b c.requires.1.1) tt

add-result : tie.Need-overflow_add-result
add-result c = add-fits (first c) (second c) tt

returns : tie.Need-returns
returns c = val (add (first c) (second c) tt)

pub both_spec : {M : Type 1} → statement M
both_spec = tie.close (tie.spec cast-result mul-result cast-result-2 mul-result-2 add-result returns)
