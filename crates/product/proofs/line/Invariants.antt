-- The outputs before j are written. Assumes nothing.
use Rattle.algebra.proofs.Lists.{Filled}
use Rattle.product.specs.Product.{line_sum, shifted}
use Rattle.product.proofs.line.Given as goal

abbrev pub invariant-loop-j : goal.invariant-loop-j
invariant-loop-j l = Filled 0 l.j l.out l.initial.out (λ j. shifted l.half l.shift (line_sum l.a l.p l.gap l.b l.apart l.pairs j))
