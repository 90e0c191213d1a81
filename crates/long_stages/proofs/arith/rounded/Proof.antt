-- `rounded` meets its contract. Assumes nothing.
use mir.Syntax.{w64}
use Rattle.algebra.proofs.Machine.{arg≤, lit, add, shr, add-fits, val}
use Rattle.long_stages.proofs.arith.rounded.Statement.{statement}
use Rattle.long_stages.proofs.arith.rounded.Tie as tie

add-result : tie.Need-overflow_add-result
add-result c = add-fits (arg≤ c.ranges.e c.requires) (lit w64 64) tt

returns : tie.Need-returns
returns c = val (shr (add (arg≤ c.ranges.e c.requires) (lit w64 64) tt) 128 tt)

pub rounded_spec : {M : Type 1} → statement M
rounded_spec = tie.close (tie.spec add-result returns)
