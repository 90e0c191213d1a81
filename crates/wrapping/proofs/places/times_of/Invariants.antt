-- How often k stood so far. Assumes nothing.
use Rattle.std.proofs.Common.{◌≡◌, ◌+◌, ◌≤◌, drop}
use Rattle.wrapping.specs.Order.{times}
use Rattle.wrapping.proofs.places.times_of.Given as goal

abbrev pub invariant-loop-place : goal.invariant-loop-place
invariant-loop-place l = (l.t ≤ l.place-index) × (l.t + times l.k (drop l.place-index l.order) ≡ times l.k l.order)
