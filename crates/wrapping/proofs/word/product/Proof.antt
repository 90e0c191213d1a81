-- `word::product` meets its contract. Assumes nothing.
use Rattle.std.proofs.Common.{ap, ◌∙◌, w16, w32}
use Rattle.algebra.proofs.Machine.{MV, arg, cast, mul, cast_fits, mul-fits, val}
use Rattle.wrapping.specs.Wrapped.{wrap}
use Rattle.wrapping.proofs.word.product.Statement.{statement}
use Rattle.wrapping.proofs.word.product.Tie as tie

abbrev w : tie.Start → MV w32
w c = cast w32 (arg {w = w16} c.ranges.w) tt

abbrev v : tie.Start → MV w32
v c = cast w32 (arg {w = w16} c.ranges.v) tt

cast-bits : tie.Need-overflow_cast-w
cast-bits c = cast_fits w32 (arg {w = w16} c.ranges.w) tt

cast-bits-2 : tie.Need-overflow_cast-v
cast-bits-2 c = cast_fits w32 (arg {w = w16} c.ranges.v) tt

mul-bits : tie.Need-overflow_mul-w
mul-bits c = mul-fits (w c) (v c) tt

bits-requires : tie.Need-bits-requires
bits-requires c κs = tt

returns : tie.Need-returns
returns c = c.bits.ensures ∙ ap wrap (val (mul (w c.before) (v c.before) tt))

pub product_spec : {M : Type 1} → statement M
product_spec = tie.close (tie.spec cast-bits cast-bits-2 mul-bits bits-requires returns)
