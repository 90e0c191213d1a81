-- Each number below k stands once. Assumes nothing.
use Rattle.std.proofs.Common.{◌≡◌, true}
use Rattle.wrapping.specs.Order.{once_to}
use Rattle.wrapping.proofs.places.is_order.Given as goal

abbrev pub invariant-loop-k : goal.invariant-loop-k
invariant-loop-k l = once_to l.k l.order ≡ true
