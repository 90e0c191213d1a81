use Rattle.std.proofs.Common.{ℕ, ◌≤◌, ◌<◌, nat_abs}
use Rattle.product.specs.Product.{pair_at}
use Rattle.kernel_steps.specs.Weighed.{pair_size}
use Rattle.kernel_steps.specs.Written.{WroteFrom}
use Rattle.kernel_steps.proofs.products.Given as goal

abbrev pub invariant-loop-k : goal.invariant-loop-k
invariant-loop-k l = WroteFrom 0 l.k l.s l.initial.s (pair_at l.a 0 2 l.b l.o l.apart) × ((i : ℕ) → i < l.k → nat_abs (pair_at l.a 0 2 l.b l.o l.apart i) ≤ pair_size)
