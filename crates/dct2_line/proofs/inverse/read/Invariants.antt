-- Each number before i was read. Assumes nothing.
use Rattle.std.proofs.Common.{ℕ, ◌≤◌, ◌<◌, nat_abs}
use Rattle.algebra.specs.Lists.{at}
use Rattle.dct2_line.proofs.inverse.read.Given as goal

abbrev pub invariant-loop-i : goal.invariant-loop-i
invariant-loop-i l = (k : ℕ) → k < l.i → nat_abs (at l.x k) ≤ 32768
