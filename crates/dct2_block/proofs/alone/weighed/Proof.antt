-- `weighed` meets its contract. Assumes nothing.
use mir.Syntax.{w32}
use Rattle.algebra.proofs.Machine.{arg≤, lit, mul, mul-fits, val}
use Rattle.dct2_block.proofs.alone.weighed.Statement.{statement}
use Rattle.dct2_block.proofs.alone.weighed.Tie as tie

mul-result : tie.Need-overflow_mul-result
mul-result c = mul-fits (lit w32 64) (arg≤ c.ranges.z c.requires) tt

returns : tie.Need-returns
returns c = val (mul (lit w32 64) (arg≤ c.ranges.z c.requires) tt)

pub weighed_spec : {M : Type 1} → statement M
weighed_spec = tie.close (tie.spec mul-result returns)
