use Rattle.std.proofs.Common.{ℕ, ◌+◌, ◌-◌, ◌≤◌, ◌<◌, nat_abs}
use Rattle.product.specs.Product.{line_sum}
use Rattle.kernel_steps.specs.Weighed.{sum_size}
use Rattle.kernel_steps.specs.Written.{WroteFrom}
use Rattle.kernel_steps.proofs.some.Given as goal

abbrev pub invariant-loop-i : goal.invariant-loop-i
invariant-loop-i l = WroteFrom l.j (l.i - l.j) l.out l.initial.out (λ i. line_sum l.a 0 2 l.b l.apart l.pairs (l.j + i)) × ((k : ℕ) → k < l.i - l.j → nat_abs (line_sum l.a 0 2 l.b l.apart l.pairs (l.j + k)) ≤ sum_size)
