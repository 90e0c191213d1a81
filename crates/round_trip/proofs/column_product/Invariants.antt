-- The products before i. Assumes nothing.
use Rattle.std.proofs.Common.{◌≡◌}
use Rattle.round_trip.proofs.Bounds.{products}
use Rattle.round_trip.proofs.column_product.Given as goal

abbrev pub invariant-loop-i : goal.invariant-loop-i
invariant-loop-i l = l.sum ≡ products l.kind l.n l.j l.k l.i
