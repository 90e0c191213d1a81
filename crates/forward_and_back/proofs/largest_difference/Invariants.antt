use Rattle.std.proofs.Common.{◌≡◌}
use Rattle.forward_and_back.specs.Trip.{apart, greatest}
use Rattle.forward_and_back.proofs.largest_difference.Given as goal

abbrev pub invariant-loop-k : goal.invariant-loop-k
invariant-loop-k l = l.most ≡ greatest l.k (apart l.given l.back)
