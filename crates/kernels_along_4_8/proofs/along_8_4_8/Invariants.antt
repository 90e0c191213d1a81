-- Made by crates/kernel_levels/make; do not edit. What the turns of `along_8_4_8` keep.
use Rattle.std.proofs.Common.{◌*◌}
use Rattle.product.specs.Product.{shifted}
use Rattle.kernel_steps.specs.Written.{WroteFrom}
use Rattle.kernel_levels.specs.Kernels.{rows_sum}
use Rattle.kernel_levels.proofs.Across.{tiled}
use Rattle.kernels_along_4_8.proofs.along_8_4_8.Given as goal

abbrev pub invariant-loop-l : goal.invariant-loop-l
invariant-loop-l l = WroteFrom 0 (8 * l.l) l.r0 l.initial.r0 (tiled 8 (λ j y. shifted l.half l.shift (rows_sum 8 4 8 l.apart l.m j y)) 0)
