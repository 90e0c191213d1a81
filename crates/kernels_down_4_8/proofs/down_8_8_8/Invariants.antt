-- Made by crates/kernel_levels/make; do not edit. What the turns of `down_8_8_8` keep.
use Rattle.meaning.specs.Plan.{short_range}
use Rattle.meaning.specs.Inverse.{middle}
use Rattle.kernel_levels.specs.Kernels.{strip_sum}
use Rattle.kernel_levels.proofs.Tiles.{Turning}
use Rattle.kernels_down_4_8.proofs.down_8_8_8.Given as goal

abbrev pub invariant-loop-x : goal.invariant-loop-x
invariant-loop-x l = Turning 8 8 8 l.x 0 (λ x y. middle short_range (strip_sum 8 l.w l.x0 l.rows l.c x y)) l.m l.initial.m
