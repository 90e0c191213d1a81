use Rattle.std.proofs.Common.{◌*◌}
use Rattle.product.specs.Product.{shifted}
use Rattle.kernel_steps.specs.Written.{WroteFrom}
use Rattle.kernel_levels.specs.Kernels.{rows_sum}
use Rattle.kernel_levels.proofs.Across.{tiled}
use Rattle.dct2_four.proofs.stage.Given as goal

abbrev pub invariant-loop-l : goal.invariant-loop-l
invariant-loop-l l = WroteFrom 0 (4 * l.l) l.out l.initial.out (tiled 4 (λ j y. shifted l.half l.shift (rows_sum 4 4 4 0 l.x j y)) 0)
