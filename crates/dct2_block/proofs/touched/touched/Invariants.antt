use Rattle.std.proofs.Common.{◌≡◌, false, ℕ, ◌<◌}
use Rattle.algebra.specs.Lists.{at}
use Rattle.dct2_block.specs.Stages.{Inner}
use Rattle.dct2_block.proofs.touched.touched.Given as goal

abbrev pub invariant-loop-i : goal.invariant-loop-i
invariant-loop-i l = l.found ≡ false → (k : ℕ) → k < l.i → Inner (at l.m k)
