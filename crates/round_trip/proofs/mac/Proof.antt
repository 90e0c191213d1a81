-- `mac` meets its contract. Assumes nothing.
use mir.Syntax.{w32}
use Rattle.algebra.proofs.Machine.{MV, arg≤, mul, add, mul-fits, add-fits, val}
use Rattle.round_trip.proofs.mac.Statement.{statement}
use Rattle.round_trip.proofs.mac.Tie as tie

abbrev product : tie.Start → MV w32
product c = mul (arg≤ c.ranges.w c.requires.1.0) (arg≤ c.ranges.v c.requires.1.1) tt

mul-result : tie.Need-overflow_mul-result
mul-result c = mul-fits (arg≤ c.ranges.w c.requires.1.0) (arg≤ c.ranges.v c.requires.1.1) tt

add-result : tie.Need-overflow_add-result
add-result c = add-fits (arg≤ c.ranges.a c.requires.0) (product c) tt

returns : tie.Need-returns
returns c = val (add (arg≤ c.ranges.a c.requires.0) (product c) tt)

pub mac_spec : {M : Type 1} → statement M
mac_spec = tie.close (tie.spec mul-result add-result returns)
