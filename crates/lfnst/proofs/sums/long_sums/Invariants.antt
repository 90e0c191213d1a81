-- The sums before j are written.
use Rattle.std.proofs.Common.{◌*◌}
use Rattle.product.specs.Product.{line_sum}
use Rattle.kernel_steps.specs.Written.{WroteFrom}
use Rattle.lfnst.proofs.sums.long_sums.Given as goal

abbrev pub invariant-loop-j : goal.invariant-loop-j
invariant-loop-j l = WroteFrom 0 l.j l.v l.initial.v (line_sum l.u 0 2 l.t (2 * l.n) l.pairs)
