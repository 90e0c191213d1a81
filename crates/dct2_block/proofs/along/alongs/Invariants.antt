use Rattle.std.proofs.Common.{◌≡◌, ◌*◌, length}
use Rattle.algebra.specs.Lists.{at}
use Rattle.meaning.specs.Line.{inverse_sum}
use Rattle.product.specs.Product.{shifted}
use Rattle.dct2_block.proofs.Groups.{Grouped, group_place}
use Rattle.dct2_block.proofs.along.alongs.Given as goal

abbrev pub invariant-loop-group : goal.invariant-loop-group
invariant-loop-group l = (length l.r ≡ l.h * l.w) × Grouped l.w (8 * l.group) (λ j y. shifted l.half l.shift (inverse_sum 0 l.w l.wide (λ i. at l.m (group_place l.step l.apart i y)) j)) l.r
