-- `size` meets its contract: by the sign. Assumes nothing.
use native.Mathlib.Omega.{arith}
use mathlib.Core.Path.{ap}
use lib.IntN.{nat_abs}
use Rattle.algebra.proofs.Signs.{Negative, Plain, negative, plain}
use Rattle.round_trip.proofs.size.Statement.{statement}
use Rattle.round_trip.proofs.size.Tie as tie

below : (c : tie.Then-z-lt0) → Negative c.before.args.z
below c = negative c.before.args.z c.before.ranges.z c.if-z-lt0.true

others : (c : tie.Else-z-lt0) → Plain c.before.args.z
others c = plain c.before.args.z c.before.ranges.z c.if-z-lt0.false

cast-result : tie.Need-overflow_cast-result
cast-result c = rw (below c).flipped (tt, record { fits = omega (arith, (below c).low, (below c).high) })

add-result : tie.Need-overflow_add-result
add-result c = rw (below c).flipped (record { fits = omega (arith, (below c).low, (below c).high) })

cast-result-2 : tie.Need-overflow_cast-result-else-z-lt0
cast-result-2 c = rw (others c).is (tt, record { fits = omega (arith, (others c).high) })

returns : tie.Need-returns-then-z-lt0
returns c = rw (below c).flipped (omega (arith, (below c).low))

returns-2 : tie.Need-returns-else-z-lt0
returns-2 c = ap nat_abs (others c).is

pub size_spec : {M : Type 1} → statement M
size_spec = tie.close (tie.spec cast-result add-result cast-result-2 returns returns-2)
