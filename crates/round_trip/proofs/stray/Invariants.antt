-- The sizes before k. Assumes nothing.
use Rattle.std.proofs.Common.{◌≡◌, nat_abs}
use Rattle.algebra.specs.Sum.{sumℕ}
use Rattle.round_trip.specs.RoundTrip.{less}
use Rattle.round_trip.proofs.stray.Given as goal

abbrev pub invariant-loop-k : goal.invariant-loop-k
invariant-loop-k l = l.total ≡ sumℕ l.k (λ k. nat_abs (less l.kind l.n l.j k))
