-- The pairs before k are written, and they are small. Assumes nothing.
use Rattle.std.proofs.Common.{◌≤◌, ◌<◌, ℕ, nat_abs}
use Rattle.algebra.proofs.Lists.{Filled}
use Rattle.product.specs.Product.{pair_at}
use Rattle.product.proofs.products.Given as goal

abbrev pub invariant-loop-k : goal.invariant-loop-k
invariant-loop-k l =
    Filled 0 l.k l.s l.initial.s (pair_at l.a l.p l.gap l.b l.o l.apart)
    × ((i : ℕ) → i < l.k → nat_abs (pair_at l.a l.p l.gap l.b l.o l.apart i) ≤ 5963776)
