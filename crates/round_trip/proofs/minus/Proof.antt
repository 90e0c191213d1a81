-- `minus` meets its contract. Assumes nothing.
use Rattle.algebra.proofs.Machine.{arg≤, sub, sub-fits, val}
use Rattle.round_trip.proofs.minus.Statement.{statement}
use Rattle.round_trip.proofs.minus.Tie as tie

sub-result : tie.Need-overflow_sub-result
sub-result c = sub-fits (arg≤ c.ranges.a c.requires.0) (arg≤ c.ranges.b c.requires.1) tt

returns : tie.Need-returns
returns c = val (sub (arg≤ c.ranges.a c.requires.0) (arg≤ c.ranges.b c.requires.1) tt)

pub minus_spec : {M : Type 1} → statement M
minus_spec = tie.close (tie.spec sub-result returns)
