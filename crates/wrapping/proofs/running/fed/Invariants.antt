-- What is held now, fed with the rest of the order, is what is held at the end. Assumes nothing.
use Rattle.std.proofs.Common.{◌≡◌, ◌+◌, ◌*◌, ◌≤◌, drop, nat_abs}
use Rattle.wrapping.specs.Wrapped.{adder}
use Rattle.wrapping.specs.Feed.{product_at}
use Rattle.wrapping.proofs.Orders.{sum_over}
use Rattle.wrapping.proofs.running.fed.Given as goal

abbrev pub invariant-loop-k : goal.invariant-loop-k
invariant-loop-k l =
    (adder l.held (drop l.k l.order) (product_at l.t l.apart l.j l.x) ≡ adder l.start l.order (product_at l.t l.apart l.j l.x))
    × (sum_over l.order (λ i. nat_abs (product_at l.t l.apart l.j l.x i)) ≤ l.k * 2981888 + sum_over (drop l.k l.order) (λ i. nat_abs (product_at l.t l.apart l.j l.x i)))
