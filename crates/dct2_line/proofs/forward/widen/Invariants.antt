-- The inputs before i are written, and each was one of 16 bits. Assumes nothing.
use Rattle.std.proofs.Common.{ℕ, ◌≤◌, ◌<◌, nat_abs}
use Rattle.algebra.specs.Lists.{at}
use Rattle.algebra.proofs.Lists.{Filled}
use Rattle.dct2_line.proofs.forward.widen.Given as goal

abbrev pub invariant-loop-i : goal.invariant-loop-i
invariant-loop-i l = Filled 0 l.i l.a l.initial.a (at l.x) × ((k : ℕ) → k < l.i → nat_abs (at l.x k) ≤ 32768)
