-- `pair` meets its contract: each product is below 2^31, and the two are small enough together. Assumes nothing.
use mir.Syntax.{w16, w32}
use Rattle.algebra.proofs.Machine.{MV, arg, cast, mul, add, sized, cast_fits, mul-fits, add-fits, val}
use Rattle.kernel_steps.proofs.pair.Statement.{statement}
use Rattle.kernel_steps.proofs.pair.Tie as tie

abbrev first : tie.Start → MV w32
first c = mul (cast w32 (arg {w = w16} c.ranges.a) tt) (cast w32 (arg {w = w16} c.ranges.v) tt) tt

abbrev second : tie.Start → MV w32
second c = mul (cast w32 (arg {w = w16} c.ranges.b) tt) (cast w32 (arg {w = w16} c.ranges.w) tt) tt

cast-result : tie.Need-overflow_cast-result
cast-result c = cast_fits w32 (arg {w = w16} c.ranges.a) tt

cast-result-2 : tie.Need-overflow_cast-result-2
cast-result-2 c = cast_fits w32 (arg {w = w16} c.ranges.v) tt

mul-result : tie.Need-overflow_mul-result
mul-result c = mul-fits (cast w32 (arg {w = w16} c.ranges.a) tt) (cast w32 (arg {w = w16} c.ranges.v) tt) tt

cast-result-3 : tie.Need-overflow_cast-result-3
cast-result-3 c = cast_fits w32 (arg {w = w16} c.ranges.b) tt

cast-result-4 : tie.Need-overflow_cast-result-4
cast-result-4 c = cast_fits w32 (arg {w = w16} c.ranges.w) tt

mul-result-2 : tie.Need-overflow_mul-result-2
mul-result-2 c = mul-fits (cast w32 (arg {w = w16} c.ranges.b) tt) (cast w32 (arg {w = w16} c.ranges.w) tt) tt

add-result : tie.Need-overflow_add-result
add-result c = add-fits (sized (first c) c.requires.0) (sized (second c) c.requires.1) tt

returns : tie.Need-returns
returns c = val (add (sized (first c) c.requires.0) (sized (second c) c.requires.1) tt)

pub pair_spec : {M : Type 1} → statement M
pair_spec =
    tie.close
    (tie.spec
    cast-result
    cast-result-2
    mul-result
    cast-result-3
    cast-result-4
    mul-result-2
    add-result
    returns)
