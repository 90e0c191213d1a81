-- The rows before y are done.
use Rattle.std.proofs.Common.{true}
use Rattle.algebra.specs.Lists.{at}
use Rattle.kernel_steps.specs.Written.{Spread}
use Rattle.lfnst.specs.LowFrequency.{standing}
use Rattle.lfnst.proofs.places.place_48.Given as goal

abbrev pub invariant-loop-y : goal.invariant-loop-y
invariant-loop-y l = Spread 8 l.y 0 l.w (standing true l.transposed (at l.v)) l.numbers l.initial.numbers
