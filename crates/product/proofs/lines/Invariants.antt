-- The lines before l are done, and what stands after them is as it was. Assumes nothing.
use Rattle.std.proofs.Common.{◌*◌}
use Rattle.algebra.proofs.Lists.{Rows}
use Rattle.product.specs.Product.{line_sum, shifted}
use Rattle.product.proofs.lines.Given as goal

abbrev pub invariant-loop-l : goal.invariant-loop-l
invariant-loop-l c = Rows c.n c.l (λ j l. shifted c.half c.shift (line_sum c.a (c.step * l) c.gap c.b c.apart c.pairs j)) c.out c.initial.out
